use Rattle.std.proofs.Common.{length, ap}
use Rattle.bk_order.specs.private.Joined.{order_in}
use Rattle.bk_order.proofs.Ordering.{order_told}
use Rattle.bk_order.proofs.intake.Intake.count_ordered.Goals as goal

pub returns-then-self : goal.returns-then-self
returns-then-self c = rw (← c.self.view_is) (λ open_ frames taken none. (
  order_in c.self.inside.table.batches c.self.inside.settled,
  order_told c.self.inside.committee frames c.self.inside.table.held c.self.inside.table.rounds (c.self.invariant open_).0 taken.certs none c.self.inside.table.batches c.self.inside.settled taken.batches
      ((c.self.invariant open_).2 c.if-self.true),
  ap length c.order.ensures,
))

pub returns : goal.returns
returns c = rw (← c.self.view_is) (λ open_ frames taken none.
    let s = c.in_ok-count.ensures in (
      order_in c.self.inside.table.batches s.0,
      order_told c.self.inside.committee frames c.self.inside.table.held c.self.inside.table.rounds (c.self.invariant open_).0 taken.certs none c.self.inside.table.batches s.0 taken.batches s.2,
      s.1,
    ))
