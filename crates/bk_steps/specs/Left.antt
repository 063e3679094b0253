-- What a run leaves: the receipts of the places, and the accounts.
use Rattle.std.specs.Prelude.{◌≡◌, ℕ, List, length, Option, Some, slice_get}
use Rattle.bk_base.specs.declared.genesis.Row.{Row}
use Rattle.bk_tx.specs.Transaction.{Transaction}
use Rattle.bk_rules.specs.declared.receipt.Receipt.{Receipt}
use Rattle.bk_rules.specs.Ledger.{Ledger}
use Rattle.bk_rules.specs.Numbers.{number_of}
use Rattle.bk_rules.specs.Rows.{account_at}
use Rattle.bk_conflicts.specs.Plan.{PlanValue, IsPlan}
use Rattle.bk_conflicts.specs.SceneOf.{CanRunOn, scene_of, accounts_by}
use Rattle.bk_steps.specs.Course.{Course, Phase, done}
use Rattle.bk_steps.specs.Moves.{IsWholeRun}
use Rattle.bk_steps.specs.declared.event.Event.{Event}

-- a place that is done with this receipt
abbrev pub done_with : Receipt → Phase
done_with r = done (number_of r.status) r.moved

-- the receipts and the accounts are those of the course: each place is done with its receipt, and each
-- account is what the words say of it
pub record AreLeftIn (plan : PlanValue) (d : Course) (receipts : List Receipt) (rows : List Row) : Type 0 where
  pub one_each : length receipts ≡ length plan.txs
  pub receipts_are : (p : ℕ) (r : Receipt) → slice_get receipts p ≡ Some r → d.phase p ≡ done_with r
  pub accounts_are : (id : ℕ) → account_at rows id ≡ accounts_by plan.version plan.ids d.value id

-- a whole run leaves them: there are events of workers, allowed one after the other from the opening
-- course, after which every place is done, and the receipts and the accounts are those of the last course
abbrev pub RunLeaves : PlanValue → Ledger → List Receipt → List Row → Type 0
RunLeaves plan ledger receipts rows = (es : List Event) × (end : Course)
    × IsWholeRun (scene_of plan ledger) es end × AreLeftIn plan end receipts rows

-- by some plan of the transactions, a whole run on the ledger leaves these receipts and these accounts
pub record LeaveByRun (txs : List (Option Transaction)) (ledger : Ledger) (receipts : List Receipt) (rows : List Row) : Type 0 where
  pub plan : PlanValue
  pub is_plan : IsPlan plan
  pub txs_are : plan.txs ≡ txs
  pub can_run : CanRunOn plan ledger
  pub left : RunLeaves plan ledger receipts rows
