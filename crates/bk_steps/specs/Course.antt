-- A course is one moment of an execution: a phase for each place, a value for each word and a
-- hand for each worker.
use Rattle.std.specs.Prelude.{◌≡◌, ◌⊎◌, ℕ, List, [], ◌∷◌, ◌==◌, if◌then◌else◌}
use Rattle.bk_conflicts.specs.Scene.{Scene}

-- the function with another value at one number
unfoldable pub put : {A : Type 0} → (ℕ → A) → ℕ → A → ℕ → A
put f i a j = if j == i then a else f j

-- the number is in the list
abbrev pub Has : List ℕ → ℕ → Type 0
Has [] x = ⊥
Has (y ∷ ys) x = (y ≡ x) ⊎ Has ys x

-- a place is waiting, held by a worker, or done with its receipt's status and moved amount
pub data Phase : Type 0 where
  waiting : Phase
  held : ℕ → Phase
  done : ℕ → ℕ → Phase

-- a worker holds nothing, or a place of which it has read these words and written those
pub data Hand : Type 0 where
  free : Hand
  busy : ℕ → List (ℕ × ℕ) → List ℕ → Hand

-- the state of an execution: the phase of each place, the value of each word, the hand of each worker
pub record Course : Type 0 where
  pub phase : ℕ → Phase
  pub value : ℕ → ℕ
  pub hand : ℕ → Hand

-- before the first event all places wait, and each word is the fold's before place 0
abbrev pub opened : Scene → Course
opened s = record { phase = λ _. waiting; value = s.fold 0; hand = λ _. free }

-- the place is done
abbrev pub IsDone : Phase → Type 0
IsDone waiting = ⊥
IsDone (held w) = ⊥
IsDone (done st mv) = Unit {0}

-- a place that is settled waits no more: it is held or done
abbrev pub IsSettled : Phase → Type 0
IsSettled waiting = ⊥
IsSettled (held w) = Unit {0}
IsSettled (done st mv) = Unit {0}

-- the word was read
abbrev pub HasRead : List (ℕ × ℕ) → ℕ → Type 0
HasRead [] x = ⊥
HasRead (r ∷ rs) x = (r.0 ≡ x) ⊎ HasRead rs x

-- what was read in a word, last
unfoldable pub found : List (ℕ × ℕ) → ℕ → ℕ
found [] x = 0
found (r ∷ rs) x = if r.0 == x then r.1 else found rs x
