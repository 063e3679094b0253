-- What the words of a run give, and the receipts of the fold.
use Rattle.std.specs.Prelude.{◌≡◌, ℕ, Some, slice_get}
use Rattle.bk_rules.specs.declared.receipt.Receipt.{Receipt}
use Rattle.bk_rules.specs.Fold.{receipts_of}
use Rattle.bk_rules.specs.Ledger.{Ledger}
use Rattle.bk_rules.specs.Numbers.{number_of}
use Rattle.bk_conflicts.specs.Plan.{PlanValue, IsPlan}
use Rattle.bk_conflicts.specs.Scene.{status_at, moved_at}
use Rattle.bk_conflicts.specs.SceneOf.{scene_of, CanRunOn}

-- the status and the amount that the scene of a plan has for a place are those of the fold's receipt
abbrev pub ScenesShowReceipts : Type 0
ScenesShowReceipts = (plan : PlanValue) (ledger : Ledger) → IsPlan plan → CanRunOn plan ledger → (place : ℕ) (r : Receipt)
    → slice_get (receipts_of plan.version plan.txs ledger.rows) place ≡ Some r
    → (status_at (scene_of plan ledger) place ≡ number_of r.status) × (moved_at (scene_of plan ledger) place ≡ r.moved)
