-- A machine that runs a schedule.
use Rattle.std.specs.Prelude.{◌≡◌, ℕ, ◌<◌, List, length, true, false, slice_index_or}
use Rattle.bk_steps.specs.Course.{Course}
use Rattle.bk_steps.specs.Machine.{MachineValue, scene_in, Shows}
use Rattle.bk_steps.specs.Steps.{IsSameRun}
use Rattle.bk_steps.specs.Schedule.{RunsAmong, IsFirstRefused}
use Rattle.bk_steps.specs.private.Machine.{is_done}
use Rattle.bk_steps.specs.declared.event.Event.{Event}
use Rattle.bk_steps.specs.declared.stage.Stage.{Stage}
use Rattle.bk_steps.specs.declared.stage.Stage.TheVariants.{Waiting}
use Rattle.bk_steps.specs.declared.outcome.ScheduleFault.{ScheduleFault}
use Rattle.bk_steps.specs.declared.outcome.ScheduleFault.TheVariants.{Refused, Unfinished, OutOfMemory}

-- whatever course the machine showed, the events are allowed from there, and it now shows the one
-- that they lead to
pub record HasRun (old : MachineValue) (es : List Event) (new : MachineValue) : Type 0 where
  pub same : IsSameRun old new
  pub follows : (d : Course) → Shows old d
      → (end : Course) × RunsAmong (scene_in old) (length old.seats) d es end × Shows new end

-- whatever course the machine showed, this is the first event that is refused from there
abbrev pub IsStopped : MachineValue → List Event → ScheduleFault → Type 0
IsStopped m es (Refused index why) = (d : Course) → Shows m d
    → IsFirstRefused (scene_in m) (length m.seats) d es index why
IsStopped m es (Unfinished place) = ⊥
IsStopped m es OutOfMemory = ⊥

-- the first of the stages that is not done
abbrev pub IsFirstLeft : List Stage → ScheduleFault → Type 0
IsFirstLeft stages (Refused index why) = ⊥
IsFirstLeft stages (Unfinished place) = (place < length stages)
    × (is_done (slice_index_or stages place Waiting) ≡ false)
    × ((q : ℕ) → q < place → is_done (slice_index_or stages q Waiting) ≡ true)
IsFirstLeft stages OutOfMemory = Unit {0}
