-- The words at the end, as contracts see them.
use Rattle.std.specs.Prelude.{ℕ, ◌+◌, ◌*◌, ◌^◌, ◌<◌, ◌≤◌, List, slice_index}

-- how many words of accounts there are, how many places, and all words
pub record WordsData : Type 0 where
  pub words : ℕ
  pub places : ℕ
  pub items : List ℕ

-- the words at the end, of so many for accounts and so many places
abbrev pub words_data : ℕ → ℕ → List ℕ → WordsData
words_data words places items = record { words = words; places = places; items = items }

-- the two words of a place
abbrev pub state_at : WordsData → ℕ → ℕ
state_at d p = slice_index d.items (d.words + 2 * p)

-- how much the place moved
abbrev pub moved_word_at : WordsData → ℕ → ℕ
moved_word_at d p = slice_index d.items (d.words + 2 * p + 1)

-- each place is done
abbrev pub AllFinished : WordsData → Type 0
AllFinished d = (p : ℕ) → p < d.places → 2 ^ 63 ≤ state_at d p

-- the place is not done, and each before it is
pub record IsFirstUnfinished (d : WordsData) (p : ℕ) : Type 0 where
  pub inside : p < d.places
  pub unfinished : state_at d p < 2 ^ 63
  pub least : (q : ℕ) → q < p → 2 ^ 63 ≤ state_at d q
