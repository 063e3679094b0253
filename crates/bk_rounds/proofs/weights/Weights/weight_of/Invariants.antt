use Rattle.bk_rounds.proofs.Weighed.{IsCounted}
use Rattle.bk_rounds.proofs.weights.Weights.weight_of.Given as goal

abbrev pub invariant-loop-member : goal.invariant-loop-member
invariant-loop-member l = IsCounted l.self l.fn.set l.left l.sum

abbrev pub decreases-loop-member : goal.decreases-loop-member
decreases-loop-member l = l.left
