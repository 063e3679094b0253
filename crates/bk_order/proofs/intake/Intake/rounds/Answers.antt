use Rattle.bk_order.proofs.Ordering.{rounds_told, committed_told}
use Rattle.bk_order.proofs.intake.Intake.rounds.Goals as goal

pub returns-clause-table : goal.returns-clause-table
returns-clause-table c = rw (← c.self.view_is) (λ frames taken open_ none.
    rounds_told c.self.inside.committee frames c.self.inside.table.held c.self.inside.table.rounds (c.self.invariant open_).0 taken.certs none)

pub returns-clause-committed : goal.returns-clause-committed
returns-clause-committed c = rw (← c.self.view_is) (λ frames taken open_ none is.
    committed_told c.self.inside.committee frames c.self.inside.table.held c.self.inside.table.rounds (c.self.invariant open_).0 taken.certs none _ is)
