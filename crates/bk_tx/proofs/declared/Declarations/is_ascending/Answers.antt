use Rattle.std.proofs.Common.{ℕ, ◌^◌, ◌<◌, List, get_or, ap, subst, ◌∙◌}
use Rattle.bk_base.specs.Numbers.{is_ascending}
use Rattle.bk_tx.proofs.Pairs.{ids_fit}
use Rattle.bk_tx.proofs.declared.Declarations.is_ascending.Goals as goal

pub returns-clause-test : goal.returns-clause-test
returns-clause-test c = c.ascends.ensures.test ∙ ap is_ascending c.ids.ensures.all

pub returns-clause-fit : goal.returns-clause-fit
returns-clause-fit c = ids_fit c.args.self.now (λ k. subst (λ (ids : List ℕ). get_or ids k 0 < 2 ^ 64) c.ids.ensures.all (c.ascends.ensures.fit k))
