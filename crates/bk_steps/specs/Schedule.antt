-- What a list of events gives among so many workers.
use Rattle.std.specs.Prelude.{◌≡◌, ℕ, ◌<◌, List, [], ◌∷◌, length, take, slice_index_or}
use Rattle.bk_rules.specs.Fold.{state_after, receipts_of}
use Rattle.bk_rules.specs.Ledger.{Ledger, ledger_of}
use Rattle.bk_conflicts.specs.Plan.{PlanValue}
use Rattle.bk_conflicts.specs.Scene.{Scene}
use Rattle.bk_steps.specs.Course.{Course, opened, IsDone}
use Rattle.bk_steps.specs.Moves.{AllAreDone}
use Rattle.bk_steps.specs.Refusals.{Allows, Refuses}
use Rattle.bk_steps.specs.Machine.{MachineValue, scene_in, Shows}
use Rattle.bk_steps.specs.declared.event.Event.{Event}
use Rattle.bk_steps.specs.declared.event.Event.TheVariants.{Claim}
use Rattle.bk_base.specs.declared.refused.Refused as reason
use Rattle.bk_steps.specs.declared.outcome.Outcome.{Outcome}
use Rattle.bk_steps.specs.declared.outcome.ScheduleFault.{ScheduleFault}
use Rattle.bk_steps.specs.declared.outcome.ScheduleFault.TheVariants.{Refused, Unfinished, OutOfMemory}

-- the events are allowed one after the other, and lead from the one course to the other
abbrev pub RunsAmong : Scene → ℕ → Course → List Event → Course → Type 0
RunsAmong s workers d [] end = end ≡ d
RunsAmong s workers d (e ∷ es) end = (next : Course) × Allows s workers d e next
    × RunsAmong s workers next es end

-- they are a whole run: from the opening course they lead to one at which every place is done
abbrev pub IsWholeAmong : Scene → ℕ → List Event → Type 0
IsWholeAmong s workers es = (end : Course) × RunsAmong s workers (opened s) es end
    × AllAreDone s end

-- the accounts and the receipts of the places, one at a time
pub record IsFoldOf (plan : PlanValue) (ledger : Ledger) (o : Outcome) : Type 0 where
  pub state : o.state ≡ ledger_of ledger.version ledger.slots
      (state_after ledger.version plan.txs ledger.rows)
  pub receipts : o.receipts.items ≡ receipts_of ledger.version plan.txs ledger.rows

-- ---- faults

-- an event past the end
abbrev pub no_event : Event
no_event = Claim 0 0

-- from this course the events before the index are allowed, and the one at it is refused for this
-- reason
pub record IsFirstRefused (s : Scene) (workers : ℕ) (d : Course) (es : List Event) (index : ℕ)
    (why : reason.Refused) : Type 0 where
  pub inside : index < length es
  pub course : Course
  pub runs : RunsAmong s workers d (take index es) course
  pub refused : Refuses s workers course (slice_index_or es index no_event) why

-- the place is not done, and each before it is
pub record IsLeastLeft (s : Scene) (d : Course) (place : ℕ) : Type 0 where
  pub inside : place < s.places
  pub left : ¬ IsDone (d.phase place)
  pub before : (q : ℕ) → q < place → IsDone (d.phase q)

-- the first event that is refused, or the least place that is not done where all are allowed
abbrev pub IsFault : Scene → ℕ → List Event → ScheduleFault → Type 0
IsFault s workers es (Refused index why) = IsFirstRefused s workers (opened s) es index why
IsFault s workers es (Unfinished place) = (end : Course) × RunsAmong s workers (opened s) es end
    × IsLeastLeft s end place
IsFault s workers es OutOfMemory = Unit {0}

-- whatever course the machine shows, this is the least place that is not done there
abbrev pub IsUndone : MachineValue → ScheduleFault → Type 0
IsUndone m (Refused index why) = ⊥
IsUndone m (Unfinished place) = (d : Course) → Shows m d → IsLeastLeft (scene_in m) d place
IsUndone m OutOfMemory = Unit {0}
