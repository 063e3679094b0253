-- The rule of the bank's words: between any two steps they show a course of the execution.
use Rattle.std.specs.Prelude.{◌≡◌, ◌≢◌, ℕ, ◌+◌, ◌*◌, ◌^◌, ◌<◌, ◌≤◌, List, [], ◌∷◌, length, true, slice_index}
use mathlib.Core.Option.{some}
use lib.ListN.{get_elem?}
use Rattle.atomic_table.specs.Table.{State}
use Rattle.bk_conflicts.specs.Scene.{Scene, owed, IsSound, moved_at}
use Rattle.bk_steps.specs.Course.{Course, Phase, waiting, held, done, free, busy, IsDone}
use Rattle.bk_steps.specs.Moves.{IsReached}
use Rattle.bk_steps.specs.Kept.{IsKept}
use Rattle.bk_bank.specs.Setting.{scene_of}
use Rattle.bk_bank.specs.declared.setting.Setting.{Setting}
use Rattle.bk_bank.specs.declared.view.Stage.{Stage}
use Rattle.bk_bank.specs.declared.view.Stage.TheVariants.{Idle, Holding, Leaving, Spent}
use Rattle.bk_bank.specs.declared.view.View.{View}

-- the scene that a view is of
abbrev pub view_scene : View → Scene
view_scene v = scene_of v.setting

-- before the first step a seat knows what the execution is about
abbrev pub starting : Setting → View
starting g = record { setting = g; seen = []; stage = Idle }

-- after the words of the accounts each place has two: its state, and how much it moved; the last
-- word is always there
abbrev pub state_word : Scene → ℕ → ℕ
state_word s q = s.words + 2 * q

-- the word that says how much a place moved
abbrev pub moved_word : Scene → ℕ → ℕ
moved_word s q = s.words + (2 * q + 1)

-- how many words the table has
abbrev pub width : Scene → ℕ
width s = s.words + (2 * s.places + 1)

-- the state word w and the moved word m of a place to which o is owed: a count, 2^62, or 2^63 and
-- the status
abbrev pub PlaceOk : ℕ → ℕ → ℕ → Phase → Type 0
PlaceOk w m o waiting = w ≡ o
PlaceOk w m o (held u) = (w ≡ 2 ^ 62) × (o ≡ 0)
PlaceOk w m o (done st mv) = (w ≡ 2 ^ 63 + st) × (m ≡ mv) × (o ≡ 0)

-- each of these places is done
abbrev pub ListDone : Course → List ℕ → Type 0
ListDone d [] = Unit {0}
ListDone d (q ∷ qs) = IsDone (d.phase q) × ListDone d qs

-- what a seat's stage says of the course
abbrev pub StageOk : Scene → Course → (ℕ → ℕ) → (ℕ → ℕ) → List ℕ → ℕ → Stage → Type 0
StageOk s d paid leaver words id Idle = d.hand id ≡ free
StageOk s d paid leaver words id (Holding p rs ws mv) = (d.hand id ≡ busy p rs ws)
    × (mv ≡ true → slice_index words (moved_word s p) ≡ moved_at s p)
StageOk s d paid leaver words id (Leaving p k f) = (d.hand id ≡ free) × (p < s.places)
    × IsDone (d.phase p) × (paid p ≡ k) × (leaver p ≡ id)
StageOk s d paid leaver words id Spent = d.hand id ≡ free

-- what a seat's view says of the course: its stage, the execution unless it is spent, and what it has seen done
pub record ViewOk (s : Scene) (d : Course) (paid leaver : ℕ → ℕ) (words : List ℕ) (id : ℕ) (v : View) : Type 0 where
  pub stage : StageOk s d paid leaver words id v.stage
  pub scene : v.stage ≢ Spent → view_scene v ≡ s
  pub seen : ListDone d v.seen

-- the words and views show the course: a place's phase by its words, a word's value, a worker's
-- hand by its seat's view; `paid` is how many successors a place has released, and `leaver` the
-- seat that left it
pub record Shows (s : Scene) (course : Course) (t : State (Unit {0}) View) : Type 0 where
  pub paid : ℕ → ℕ
  pub leaver : ℕ → ℕ
  pub sound : IsSound s
  pub kept : IsKept s course
  pub wide : length t.words ≡ width s
  pub values : (x : ℕ) → x < s.words → slice_index t.words x ≡ course.value x
  pub each_place : (q : ℕ) → q < s.places
      → PlaceOk (slice_index t.words (state_word s q)) (slice_index t.words (moved_word s q))
      (owed s paid q) (course.phase q)
  pub unpaid : (p : ℕ) → ¬ IsDone (course.phase p) → paid p ≡ 0
  pub each_view : (id : ℕ) (v : View) → get_elem? t.views id ≡ some v
      → ViewOk s course paid leaver t.words id v
  pub beyond : (id : ℕ) → length t.views ≤ id → course.hand id ≡ free

-- the rule of the words: they and the views show a course that events of the seats have led to
abbrev pub IsOrdered : Scene → State (Unit {0}) View → Type 0
IsOrdered s t = (d : Course) × IsReached s d × Shows s d t
