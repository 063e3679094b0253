use Rattle.std.proofs.Common.{ap, ◌∙◌, arith}
use Rattle.std.specs.List.{sum_by}
use Rattle.bk_rules.specs.declared.account.Account.{Account}
use Rattle.bk_rules.proofs.Slots.{total_shown}
use Rattle.bk_rules.proofs.state.State.total.Goals as goal

pub sum_of_balances-requires : goal.sum_of_balances-requires
sum_of_balances-requires c =
    let all = total_shown c.self.inside.version c.self.inside.ids c.self.inside.numbers.items c.self.invariant.same c.self.invariant.own in
    let within = c.self.invariant.ledger.within in
    rw c.deref.ensures.value (omega arith)

pub returns : goal.returns
returns c =
    rw (← c.self.view_is) (
    c.sum_of_balances.ensures
    ∙ ap (sum_by (λ (a : Account). a.balance)) c.deref.ensures.value
    ∙ total_shown c.self.inside.version c.self.inside.ids c.self.inside.numbers.items c.self.invariant.same c.self.invariant.own
    )
