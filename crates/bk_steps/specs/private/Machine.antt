-- What a machine keeps, and the tests of stages.
use Rattle.std.specs.Prelude.{◌≡◌, ℕ, ◌<◌, List, length, Bool, true, false, if◌then◌else◌, slice_index_or}
use Rattle.bk_rules.specs.Ledger.{Ledger}
use Rattle.bk_conflicts.specs.Plan.{PlanValue, after_of}
use Rattle.bk_conflicts.specs.Scene.{owed}
use Rattle.bk_conflicts.specs.SceneOf.{in_conflict, scene_of}
use Rattle.bk_steps.specs.Machine.{MachineValue, IsMachine}
use Rattle.bk_steps.specs.declared.stage.Stage.{Stage}
use Rattle.bk_steps.specs.declared.stage.Stage.TheVariants.{Waiting, Held, Done}
use Rattle.bk_steps.specs.declared.seat.Seat.{Seat}

-- the machine of these parts
abbrev pub machine_value : PlanValue → Ledger → List ℕ → List Stage → List Seat → MachineValue
machine_value plan opening words stages seats = record {
  plan = plan;
  opening = opening;
  words = words;
  stages = stages;
  seats = seats;
}

-- the stage is that of a place that is done
abbrev pub is_done : Stage → Bool
is_done Waiting = false
is_done (Held w) = false
is_done (Done r) = true

-- the stage is that of a place that waits
abbrev pub is_waiting : Stage → Bool
is_waiting Waiting = true
is_waiting (Held w) = false
is_waiting (Done r) = false

-- the place is one, it is waiting, and each earlier one in conflict with it is done
pub record IsFree (plan : PlanValue) (stages : List Stage) (place : ℕ) : Type 0 where
  pub inside : place < length plan.txs
  pub waits : is_waiting (slice_index_or stages place Waiting) ≡ true
  pub earlier : (q : ℕ) → q < place → in_conflict plan.ids plan.txs q place ≡ true
      → is_done (slice_index_or stages q Waiting) ≡ true

-- how many of its successors a place has released: all of them once it is done
abbrev pub released : PlanValue → List Stage → ℕ → ℕ
released plan stages p =
    if is_done (slice_index_or stages p Waiting) then length (after_of plan p) else 0

-- each count is what is still owed to the place
abbrev pub AreCounts : PlanValue → Ledger → List Stage → List ℕ → Type 0
AreCounts plan opening stages waits = (length waits ≡ length plan.txs)
    × ((q : ℕ) → q < length plan.txs
    → slice_index_or waits q 0 ≡ owed (scene_of plan opening) (released plan stages) q)

-- what is true of the fields of a machine
pub record IsInside (plan : PlanValue) (opening : Ledger) (words : List ℕ) (stages : List Stage)
    (seats : List Seat) (waits : List ℕ) : Type 0 where
  pub machine : IsMachine (machine_value plan opening words stages seats)
  pub counts : AreCounts plan opening stages waits
