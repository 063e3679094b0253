use Rattle.std.proofs.Common.{ℕ, List, IsTrue, subst, sym, ap, ◌∙◌}
use Rattle.bk_base.specs.Numbers.{is_ascending}
use Rattle.bk_tables.specs.Payments.{is_among}
use Rattle.bk_tables.proofs.Lists.{found_among}
use Rattle.bk_tables.proofs.accounts.Accounts.has.Goals as goal

pub returns : goal.returns
returns c =
    found_among c.deref.result.now c.args.id c.binary_search.result c.is_ok.result (subst (λ (ids : List ℕ). IsTrue (is_ascending ids)) (sym c.deref.ensures.value) c.self.invariant) c.binary_search.ensures.bound c.binary_search.ensures.position c.is_ok.ensures.value
    ∙ ap (λ (ids : List ℕ). is_among ids c.args.id) (c.deref.ensures.value ∙ c.self.view_is)
