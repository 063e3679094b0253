-- A hold of which nothing was read, and the plan that a bank executes.
use Rattle.std.specs.Prelude.{◌≡◌, [], false}
use Rattle.bk_conflicts.specs.Plan.{PlanValue}
use Rattle.bk_conflicts.specs.SceneOf.{CanRunOn}
use Rattle.bk_bank.specs.declared.view.Stage.TheVariants.{Holding}
use Rattle.bk_bank.specs.Bank.{BankData, HoldData}

-- nothing was read or written
abbrev pub IsFresh : HoldData → Type 0
IsFresh h = h.view.stage ≡ Holding h.place [] [] false

-- the bank executes this plan, on a ledger that it can run on
pub record IsBankOf (plan : PlanValue) (b : BankData) : Type 0 where
  pub same : plan ≡ b.setting.plan
  pub runs : CanRunOn plan b.setting.opening
