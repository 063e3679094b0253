-- Why an event is refused among so many workers: for the first test that it fails, in the order in
-- which the rules are written here.
use Rattle.std.specs.Prelude.{◌≡◌, ℕ, ◌<◌, List, [], true}
use Rattle.bk_conflicts.specs.Scene.{Scene}
use Rattle.bk_steps.specs.Course.{Course, waiting, free, busy, Has}
use Rattle.bk_steps.specs.Moves.{HasReadAll, HasWrittenAll, EarlierAreDone, Moves}
use Rattle.bk_steps.specs.declared.event.Event.{Event}
use Rattle.bk_steps.specs.declared.event.Event.TheVariants.{Claim, Read, Write, Finish}
use Rattle.bk_base.specs.declared.refused.Refused.{Refused}
use Rattle.bk_base.specs.declared.refused.Refused.TheVariants.{NotReady, NotIdle, NotHolder, NotDeclared, OutOfTurn}

-- the worker of an event
abbrev pub worker_of : Event → ℕ
worker_of (Claim w p) = w
worker_of (Read w x) = w
worker_of (Write w x) = w
worker_of (Finish w) = w

-- the event is allowed, and its worker is one of so many
abbrev pub Allows : Scene → ℕ → Course → Event → Course → Type 0
Allows s workers d e next = (worker_of e < workers) × Moves s d e next

-- the worker is one of so many, and holds nothing
abbrev pub IsIdle : ℕ → Course → ℕ → Type 0
IsIdle workers d w = (w < workers) × (d.hand w ≡ free)

-- the worker is one of so many, and holds this place, of which it has read and written this
abbrev pub IsBusy : ℕ → Course → ℕ → ℕ → List (ℕ × ℕ) → List ℕ → Type 0
IsBusy workers d w p rs ws = (w < workers) × (d.hand w ≡ busy p rs ws)

-- the worker is one of so many, and holds some place
abbrev pub IsHolder : ℕ → Course → ℕ → Type 0
IsHolder workers d w = (p : ℕ) × (rs : List (ℕ × ℕ)) × (ws : List ℕ) × IsBusy workers d w p rs ws

-- the place waits, and each earlier place in conflict with it is done
abbrev pub IsReady : Scene → Course → ℕ → Type 0
IsReady s d p = (p < s.places) × (d.phase p ≡ waiting) × EarlierAreDone s d p

-- the event is refused after the course among so many workers, for this reason
pub data Refuses (s : Scene) (workers : ℕ) (d : Course) : Event → Refused → Type 0 where
  not_idle : (w p : ℕ) → ¬ IsIdle workers d w → Refuses s workers d (Claim w p) NotIdle
  not_ready : (w p : ℕ) → IsIdle workers d w → ¬ IsReady s d p
      → Refuses s workers d (Claim w p) NotReady
  no_reader : (w x : ℕ) → ¬ IsHolder workers d w → Refuses s workers d (Read w x) NotHolder
  not_read : (w x p : ℕ) (rs : List (ℕ × ℕ)) (ws : List ℕ) → IsBusy workers d w p rs ws
      → ¬ (s.declares p x ≡ true)
      → Refuses s workers d (Read w x) NotDeclared
  read_late : (w x p : ℕ) (rs : List (ℕ × ℕ)) (ws : List ℕ) → IsBusy workers d w p rs ws
      → s.declares p x ≡ true → ¬ (ws ≡ [])
      → Refuses s workers d (Read w x) OutOfTurn
  no_writer : (w x : ℕ) → ¬ IsHolder workers d w → Refuses s workers d (Write w x) NotHolder
  not_written : (w x p : ℕ) (rs : List (ℕ × ℕ)) (ws : List ℕ) → IsBusy workers d w p rs ws
      → ¬ (s.writes p x ≡ true)
      → Refuses s workers d (Write w x) NotDeclared
  write_early : (w x p : ℕ) (rs : List (ℕ × ℕ)) (ws : List ℕ) → IsBusy workers d w p rs ws
      → s.writes p x ≡ true → ¬ (HasReadAll s p rs × (¬ Has ws x))
      → Refuses s workers d (Write w x) OutOfTurn
  no_finisher : (w : ℕ) → ¬ IsHolder workers d w → Refuses s workers d (Finish w) NotHolder
  finish_early : (w p : ℕ) (rs : List (ℕ × ℕ)) (ws : List ℕ) → IsBusy workers d w p rs ws
      → ¬ (HasReadAll s p rs × HasWrittenAll s p ws)
      → Refuses s workers d (Finish w) OutOfTurn
