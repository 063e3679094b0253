use Rattle.std.proofs.Common.{sym, ap₂, ◌∙◌}
use Rattle.bk_rules.specs.private.Slots.{shown_at}
use Rattle.bk_rules.proofs.Slots.{account_at-shown}
use Rattle.bk_rules.proofs.state.State.account.Goals as goal

pub returns : goal.returns
returns c =
    rw (← c.self.view_is) (
    c.account_in.ensures
    ∙ ap₂ (shown_at c.self.inside.version) c.deref.ensures.value c.index_or_len.ensures
    ∙ sym (account_at-shown c.self.inside.version c.self.inside.ids c.self.inside.numbers.items c.self.invariant.ascending c.self.invariant.same c.args.id)
    )
