use Rattle.std.proofs.Common.{length, ap, ◌∙◌}
use Rattle.bk_conflicts.specs.Plan.{PlanValue}
use Rattle.bk_bank.proofs.Own.{places_are}
use Rattle.bk_bank.proofs.bank.Bank.len.Goals as goal

pub returns : goal.returns
returns c = places_are _ _ _ _ _ c.self.view_is c.self.invariant (c.len.ensures.count ∙ ap (λ (g : PlanValue). length g.txs) c.deref.ensures)
