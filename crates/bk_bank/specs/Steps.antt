-- Each step on the words is the event of the course that it shows, or none.
use Rattle.std.specs.Prelude.{◌≡◌, ℕ, ◌+◌, ◌^◌, ◌<◌, ◌≤◌, List, length, Option, Some, None, slice_index, slice_set}
use Rattle.atomic_table.specs.Table.{State}
use Rattle.bk_conflicts.specs.Scene.{Scene, status_at, moved_at}
use Rattle.bk_steps.specs.Course.{Course, done, IsDone}
use Rattle.bk_steps.specs.Moves.{Moves, IsReached}
use Rattle.bk_steps.specs.declared.event.Event.{Event}
use Rattle.bk_bank.specs.Rule.{Shows, state_word, moved_word, width}
use Rattle.bk_bank.specs.declared.view.View.{View}

-- the event leads from the one course to the other, and no event leaves it
abbrev pub MovesBy : Scene → Course → Option Event → Course → Type 0
MovesBy s d (Some e) next = Moves s d e next
MovesBy s d None next = next ≡ d

-- the table after the seat id has set the word i to n, with the view w
abbrev pub table_with : State (Unit {0}) View → ℕ → ℕ → ℕ → View → State (Unit {0}) View
table_with t id i n w = record {
  words = slice_set t.words i n;
  homes = t.homes;
  views = slice_set t.views id w;
}

-- the seat id can set the word i to n: it has a view for it of which the fact is true, and the
-- course that is shown then is that after this event
abbrev pub Turns : Scene → Course → State (Unit {0}) View → ℕ → Option Event → ℕ → ℕ → (View → Type 0) → Type 0
Turns s d t id e i n fact = (w : View) × (next : Course) × MovesBy s d e next
    × Shows s next (table_with t id i n w) × fact w

-- the words at the start
pub record IsLaid (s : Scene) (words : List ℕ) : Type 0 where
  pub wide : length words ≡ width s
  pub values : (x : ℕ) → x < s.words → slice_index words x ≡ s.fold 0 x
  pub counts : (q : ℕ) → q < s.places → slice_index words (state_word s q) ≡ s.before q

-- the words are those of the course: of each account, and of each place that is done there
pub record AreWordsOf (s : Scene) (d : Course) (words : List ℕ) : Type 0 where
  pub values : (x : ℕ) → x < s.words → slice_index words x ≡ d.value x
  pub is_done : (p : ℕ) → p < s.places → 2 ^ 63 ≤ slice_index words (state_word s p) → IsDone (d.phase p)
  pub receipts : (p st mv : ℕ) → p < s.places → d.phase p ≡ done st mv
      → (slice_index words (state_word s p) ≡ 2 ^ 63 + st) × (slice_index words (moved_word s p) ≡ mv)

-- the words at the end: they are those of the course that the events of a run led to; a place that
-- is done shows its receipt, and where all are done the words are the fold's
pub record Ends (s : Scene) (words : List ℕ) : Type 0 where
  pub ran : (d : Course) × IsReached s d × AreWordsOf s d words
  pub done : (p : ℕ) → p < s.places → 2 ^ 63 ≤ slice_index words (state_word s p)
      → (slice_index words (state_word s p) ≡ 2 ^ 63 + status_at s p)
      × (slice_index words (moved_word s p) ≡ moved_at s p)
  pub all : ((p : ℕ) → p < s.places → 2 ^ 63 ≤ slice_index words (state_word s p))
      → (x : ℕ) → x < s.words → slice_index words x ≡ s.fold s.places x
