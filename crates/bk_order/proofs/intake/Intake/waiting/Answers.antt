use Rattle.bk_order.proofs.Ordering.{waiting_told}
use Rattle.bk_order.proofs.intake.Intake.waiting.Goals as goal

pub returns : goal.returns
returns c = rw (← c.self.view_is) (λ frames taken open_ none.
    waiting_told c.self.inside.committee frames c.self.inside.table.held c.self.inside.table.rounds (c.self.invariant open_).0 taken.certs none c.in_ok-places.places.items c.in_ok-places.ensures)
