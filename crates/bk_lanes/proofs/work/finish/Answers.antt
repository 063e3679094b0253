use Rattle.std.proofs.Common.{arith}
use Rattle.bk_lanes.proofs.work.finish.Goals as goal

pub rounds-preserved : goal.rounds-preserved
rounds-preserved c = (
  omega arith,
  c.advance.ensures.working,
  λ i lt. omega (arith, c.advance.ensures.left i lt, c.rounds.invariant.2 i lt),
  λ n done. c.advance.ensures.done n (c.rounds.invariant.3 n done),
)
