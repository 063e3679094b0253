use Rattle.bk_answer.specs.Values.{order_value}
use Rattle.bk_answer.proofs.Closings.{rounds_here, committed_here}
use Rattle.bk_answer.proofs.closed.ClosedOrder.rounds.Goals as goal

pub returns-clause-rounds : goal.returns-clause-rounds
returns-clause-rounds c = λ feed made. rounds_here feed (order_value c.args.self.now) made.1 c.rounds.result.now c.rounds.ensures.table

pub returns-clause-committed : goal.returns-clause-committed
returns-clause-committed c = committed_here c.requires.0 (order_value c.args.self.now) c.requires.1.1 c.rounds.result.now c.rounds.ensures.committed
