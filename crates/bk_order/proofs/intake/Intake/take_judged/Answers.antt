use Rattle.std.proofs.Common.{◌∙◌, ap}
use Rattle.std.proofs.lemmas.Bool.{false≢true}
use Rattle.bk_order.proofs.Ordering.{order_kept, followed_on}
use Rattle.bk_order.proofs.intake.Intake.take_judged.Goals as goal

pub invariant_of-self : goal.invariant_of-self
invariant_of-self c = λ open_. (
  c.in-Ok.ensures.joined,
  followed_on c.self.inside.table.rounds.sizes c.keep_all.new.table.rounds.sizes c.self.inside.table.rounds.held c.keep_all.new.table.rounds.held c.self.inside.table.batches c.keep_all.new.table.batches c.self.inside.settled
      c.in-Ok.ensures.goes_on.sizes c.in-Ok.ensures.goes_on.rounds c.in-Ok.ensures.goes_on.batches (c.self.invariant open_).1,
  λ e. absurd (false≢true e),
)

pub returns-in-Ok-clause-order : goal.returns-in-Ok-clause-order
returns-in-Ok-clause-order c =
    order_kept c.self.inside.table.rounds.sizes c.self.inside.table.rounds.held c.self.inside.table.batches c.keep_all.new.table.batches c.self.inside.settled (c.self.invariant c.if-self.false).1 c.in-Ok.ensures.goes_on.batches
    ∙ ap (λ v. v.ordered) c.self.view_is
