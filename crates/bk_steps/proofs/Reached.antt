-- What holds of every machine, also after an event.
use Rattle.std.proofs.Common.{◌≡◌, ℕ, ◌<◌, List, length, Some, ◌∙◌, arith}
use Rattle.bk_rules.specs.Ledger.{Ledger}
use Rattle.bk_conflicts.specs.Plan.{PlanValue, IsPlan}
use Rattle.bk_conflicts.specs.SceneOf.{CanRunOn, scene_of}
use Rattle.bk_conflicts.specs.Scene.{IsSound}
use Rattle.bk_conflicts.proofs.Folded.{is_folded}
use Rattle.bk_conflicts.proofs.Sound.{are_words, are_edges}
use Rattle.bk_steps.specs.Machine.{MachineValue, scene_in, seat_at, IsMachine}
use Rattle.bk_steps.specs.Steps.{Steps}
use Rattle.bk_steps.specs.declared.event.Event.{Event}
use Rattle.bk_steps.specs.declared.stage.Stage.{Stage}
use Rattle.bk_steps.specs.declared.seat.Seat.{Seat}
use Rattle.bk_steps.proofs.Hands.{busy_shown}
use Rattle.bk_steps.proofs.Running.{keeps_event}

pub sound_of : (plan : PlanValue) (ledger : Ledger) → IsPlan plan → CanRunOn plan ledger → IsSound (scene_of plan ledger)
sound_of plan ledger is runs = record {
  are_words = are_words plan ledger;
  are_edges = are_edges plan ledger is;
  is_folded = is_folded plan ledger is runs;
  few_places = is.few_places;
  few_words = let a = is.few_slots in omega arith;
}

pub sound : (m : MachineValue) → IsMachine m → IsSound (scene_in m)
sound m z = sound_of m.plan m.opening z.is_plan z.can_run

abbrev pub with_lists : MachineValue → List ℕ → List Stage → List Seat → MachineValue
with_lists m words stages seats = record { plan = m.plan; opening = m.opening; words = words; stages = stages; seats = seats }

-- an event keeps it
pub keeps : (m : MachineValue) (e : Event) (words : List ℕ) (stages : List Stage) (seats : List Seat) → IsMachine m
    → length words ≡ length m.words → length stages ≡ length m.stages → Steps m e (with_lists m words stages seats)
    → IsMachine (with_lists m words stages seats)
keeps m e words stages seats z a b s = let t = z.course in let f = s.follows t.0 t.2 in record {
  is_plan = z.is_plan;
  can_run = z.can_run;
  words_long = a ∙ z.words_long;
  stages_long = b ∙ z.stages_long;
  course = (f.next, keeps_event (scene_in m) (sound m z) t.0 f.next e t.1 f.allowed.1, f.shown);
}

-- a worker's place is one of the plan
pub place_low : (m : MachineValue) (w p : ℕ) → IsMachine m → (seat_at m w).place ≡ Some p → p < length m.plan.txs
place_low m w p z at = let t = z.course in
    let h = busy_shown m.plan (seat_at m w) p (t.0.hand w) (t.2.hands w) at in (t.1.holds w p h.0 h.1 h.2).1

pub place_small : (m : MachineValue) (w p : ℕ) → IsMachine m → (seat_at m w).place ≡ Some p → p < 4294967296
place_small m w p z at = let l = place_low m w p z at in let few = z.is_plan.few_places in omega arith
