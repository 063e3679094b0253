use Rattle.bk_committee.proofs.Weights.{sum-ones}
use Rattle.bk_committee.proofs.laws.quorums_meet.Goals as goal

pub returns-clause-heads : goal.returns-clause-heads
returns-clause-heads c = λ z one. sum-ones z.weights one
