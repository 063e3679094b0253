-- What an execution answers.
use Rattle.std.specs.Prelude.{◌≡◌, ℕ, ◌*◌, ◌<◌, List, ◌++◌, length}
use Rattle.bk_rules.specs.declared.receipt.Receipt.{Receipt}
use Rattle.bk_rules.specs.Fold.{state_after, receipts_of}
use Rattle.bk_rules.specs.Ledger.{Ledger, ledger_of}
use Rattle.bk_conflicts.specs.Plan.{PlanValue}
use Rattle.bk_steps.specs.Left.{RunLeaves}
use Rattle.bk_bank.specs.Setting.{scene_of, setting_with}
use Rattle.bk_bank.specs.Steps.{Ends}
use Rattle.bk_bank.specs.Words.{WordsData, IsFirstUnfinished}
use Rattle.bk_pool.specs.declared.outcome.ExecFault.{ExecFault}
use Rattle.bk_pool.specs.declared.outcome.ExecFault.TheVariants.{OutOfMemory, Unfinished}

-- a place that is not done is one of so many
abbrev pub IsBelow : ℕ → ExecFault → Type 0
IsBelow places OutOfMemory = Unit {0}
IsBelow places (Unfinished p) = p < places

-- the accounts after the places, one at a time, and their receipts after those of a list
pub record IsFoldOnto (plan : PlanValue) (ledger : Ledger) (old new : List Receipt) (after : Ledger) : Type 0 where
  pub state : after ≡ ledger_of ledger.version ledger.slots (state_after ledger.version plan.txs ledger.rows)
  pub receipts : new ≡ old ++ receipts_of ledger.version plan.txs ledger.rows

-- a whole run of worker events leaves the accounts, and the receipts after those of a list
abbrev pub RunLeavesOnto : PlanValue → Ledger → List Receipt → List Receipt → Ledger → Type 0
RunLeavesOnto plan ledger old new after = (added : List Receipt) × (new ≡ old ++ added)
    × RunLeaves plan ledger added after.rows

-- ---- of the words that are left

-- the words of a bank of this plan and this ledger that was closed
pub record IsClosed (plan : PlanValue) (ledger : Ledger) (w : WordsData) : Type 0 where
  pub ends : Ends (scene_of (setting_with plan ledger)) w.items
  pub words : w.words ≡ 2 * length plan.ids
  pub places : w.places ≡ length plan.txs

-- the least place that is not done
abbrev pub IsLeft : WordsData → ExecFault → Type 0
IsLeft w OutOfMemory = Unit {0}
IsLeft w (Unfinished p) = IsFirstUnfinished w p
