-- What an execution is about, word by word: places, the words of each, who waits for whom, and the fold.
use Rattle.std.specs.Prelude.{◌≡◌, ◌≢◌, ◌==◌, ℕ, zero, suc, ◌+◌, ◌^◌, ◌<◌, List, [], ◌∷◌, drop, Bool, true, if◌then◌else◌}

-- an execution as its events see it; words and places go by number
pub record Scene : Type 0 where
  pub places : ℕ
  pub words : ℕ
  -- the place may read the word
  pub declares : ℕ → ℕ → Bool
  -- the place may write the word
  pub writes : ℕ → ℕ → Bool
  -- the two places are in conflict
  pub clash : ℕ → ℕ → Bool
  -- how many direct predecessors a place has, and its direct successors
  pub before : ℕ → ℕ
  pub next : ℕ → List ℕ
  -- the word after the first so many places, one at a time
  pub fold : ℕ → ℕ → ℕ
  -- what a place leaves in a word, and its receipt, by what it reads in each
  pub effect : ℕ → (ℕ → ℕ) → ℕ → ℕ
  pub status : ℕ → (ℕ → ℕ) → ℕ
  pub moved : ℕ → (ℕ → ℕ) → ℕ

-- the status of a place's receipt in the fold
abbrev pub status_at : Scene → ℕ → ℕ
status_at s p = s.status p (s.fold p)

-- how much it moves
abbrev pub moved_at : Scene → ℕ → ℕ
moved_at s p = s.moved p (s.fold p)

-- ---- edges

-- how often x is in the list
unfoldable pub times : ℕ → List ℕ → ℕ
times x [] = 0
times x (y ∷ ys) = (if y == x then 1 else 0) + times x ys

-- what the first n places owe to q, where paid p successors of p were released
unfoldable pub owed_below : Scene → (ℕ → ℕ) → ℕ → ℕ → ℕ
owed_below s paid q zero = 0
owed_below s paid q (suc n) = times q (drop (paid n) (s.next n)) + owed_below s paid q n

-- what all places owe to q
abbrev pub owed : Scene → (ℕ → ℕ) → ℕ → ℕ
owed s paid q = owed_below s paid q s.places

-- q waits for p directly
abbrev pub IsEdge : Scene → ℕ → ℕ → Type 0
IsEdge s p q = (p < s.places) × (0 < times q (s.next p))

-- q waits for p, perhaps through places between
pub data Chain (s : Scene) : ℕ → ℕ → Type 0 where
  edge : (p q : ℕ) → IsEdge s p q → Chain s p q
  via : (p r q : ℕ) → Chain s p r → IsEdge s r q → Chain s p q

-- ---- what makes a scene sound

-- the two show the same in each word of the place
abbrev pub SeeSame : Scene → ℕ → (ℕ → ℕ) → (ℕ → ℕ) → Type 0
SeeSame s p f g = (x : ℕ) → s.declares p x ≡ true → f x ≡ g x

-- words and conflicts: what is written is declared, and who declares a word is in conflict with who writes it
pub record AreWords (s : Scene) : Type 0 where
  pub places_inside : (p x : ℕ) → s.declares p x ≡ true → p < s.places
  pub words_inside : (p x : ℕ) → s.declares p x ≡ true → x < s.words
  pub written_declared : (p x : ℕ) → s.writes p x ≡ true → s.declares p x ≡ true
  pub clashes : (p q x : ℕ) → p ≢ q → s.declares p x ≡ true → s.writes q x ≡ true → s.clash p q ≡ true
  pub clashes_back : (p q x : ℕ) → p ≢ q → s.declares p x ≡ true → s.writes q x ≡ true → s.clash q p ≡ true

-- edges: `before` counts what `next` lists, and chains of edges cover the conflicts
pub record AreEdges (s : Scene) : Type 0 where
  pub counts : (q : ℕ) → q < s.places → s.before q ≡ owed s (λ _. 0) q
  pub few : (q : ℕ) → owed s (λ _. 0) q < 2 ^ 32
  pub inside : (p q : ℕ) → IsEdge s p q → q < s.places
  pub cover : (p q : ℕ) → p < q → q < s.places → s.clash p q ≡ true → Chain s p q

-- the fold: a place changes what it writes alone, by what it reads alone
pub record IsFolded (s : Scene) : Type 0 where
  pub kept : (p x : ℕ) → ¬ (s.writes p x ≡ true) → s.fold (suc p) x ≡ s.fold p x
  pub changed : (p x : ℕ) → s.writes p x ≡ true → s.fold (suc p) x ≡ s.effect p (s.fold p) x
  pub local : (p : ℕ) (f g : ℕ → ℕ) → SeeSame s p f g → (x : ℕ) → s.writes p x ≡ true → s.effect p f x ≡ s.effect p g x
  pub statuses : (p : ℕ) (f g : ℕ → ℕ) → SeeSame s p f g → s.status p f ≡ s.status p g
  pub moves : (p : ℕ) (f g : ℕ → ℕ) → SeeSame s p f g → s.moved p f ≡ s.moved p g
  pub seven : (p : ℕ) (f : ℕ → ℕ) → s.status p f < 7

-- all of it, and room for the numbers of places and words
pub record IsSound (s : Scene) : Type 0 where
  pub are_words : AreWords s
  pub are_edges : AreEdges s
  pub is_folded : IsFolded s
  pub few_places : s.places < 2 ^ 31
  pub few_words : s.words < 2 ^ 32
