use Rattle.std.proofs.Common.{◌*◌, length, ap, ◌∙◌, arith}
use Rattle.bk_conflicts.specs.Plan.{PlanValue}
use Rattle.bk_bank.proofs.Own.{computed}
use Rattle.bk_bank.proofs.bank.Bank.state_word.Goals as goal

pub overflow_add-result : goal.overflow_add-result
overflow_add-result c =
    let is = c.word_count.ensures ∙ ap (λ (g : PlanValue). 2 * length g.ids) c.deref.ensures in
    let k = (computed _ _ _ _ _ _ c.self.view_is c.self.invariant c.requires is).fits in omega arith

pub returns-clause-word : goal.returns-clause-word
returns-clause-word c = (computed _ _ _ _ _ _ c.self.view_is c.self.invariant c.requires (c.word_count.ensures ∙ ap (λ (g : PlanValue). 2 * length g.ids) c.deref.ensures)).is

pub returns-clause-inside : goal.returns-clause-inside
returns-clause-inside c = (computed _ _ _ _ _ _ c.self.view_is c.self.invariant c.requires (c.word_count.ensures ∙ ap (λ (g : PlanValue). 2 * length g.ids) c.deref.ensures)).inside
