-- What a machine does with an event: it does it, or refuses it.
use Rattle.std.specs.Prelude.{◌≡◌, ℕ, length, Option, None, Some, slice_index_or}
use Rattle.bk_conflicts.specs.Scene.{Scene}
use Rattle.bk_steps.specs.Course.{Course}
use Rattle.bk_steps.specs.Refusals.{Allows, Refuses}
use Rattle.bk_steps.specs.Machine.{MachineValue, scene_in, Shows}
use Rattle.bk_steps.specs.declared.event.Event.{Event}
use Rattle.bk_steps.specs.declared.event.Event.TheVariants.{Claim, Read, Write, Finish}
use Rattle.bk_base.specs.declared.refused.Refused.{Refused}

-- the event is allowed at the course, and the machine shows the one that it makes of it
pub record Follows (s : Scene) (workers : ℕ) (d : Course) (e : Event) (new : MachineValue)
    : Type 0 where
  pub next : Course
  pub allowed : Allows s workers d e next
  pub shown : Shows new next

-- it runs the same execution, with as many workers
pub record IsSameRun (old new : MachineValue) : Type 0 where
  pub plan : new.plan ≡ old.plan
  pub opening : new.opening ≡ old.opening
  pub workers : length new.seats ≡ length old.seats

-- whatever course the machine showed, the event is allowed there, and the machine now shows the
-- course that it makes of it
pub record Steps (old : MachineValue) (e : Event) (new : MachineValue) : Type 0 where
  pub same : IsSameRun old new
  pub follows : (d : Course) → Shows old d → Follows (scene_in old) (length old.seats) d e new

-- whatever course the machine shows, the event is refused there for this reason
abbrev pub IsRefused : MachineValue → Event → Refused → Type 0
IsRefused m e why = (d : Course) → Shows m d → Refuses (scene_in m) (length m.seats) d e why

-- the word of a number
abbrev pub word_of : MachineValue → ℕ → ℕ
word_of m x = slice_index_or m.words x 0

-- what a worker learns by an event: the word that it reads or writes
abbrev pub learned : MachineValue → Event → Option ℕ
learned m (Claim w p) = None
learned m (Read w x) = Some (word_of m x)
learned m (Write w x) = Some (word_of m x)
learned m (Finish w) = None
