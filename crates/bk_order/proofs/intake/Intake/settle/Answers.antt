use Rattle.bk_order.proofs.Ordering.{order_told}
use Rattle.bk_order.proofs.intake.Intake.settle.Goals as goal

pub returns-in-Ok-clause-order : goal.returns-in-Ok-clause-order
returns-in-Ok-clause-order c = λ frames taken none.
    order_told c.self.inside.committee frames c.self.inside.table.held c.self.inside.table.rounds (c.self.invariant c.if-self.false).0 taken.certs none c.self.inside.table.batches c.settle.new.settled taken.batches c.in-Ok.ensures
