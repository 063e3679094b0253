use Rattle.bk_commit.proofs.Levels.{IsGathered}
use Rattle.bk_commit.proofs.history.next_level.Given as goal

abbrev pub invariant-loop-y : goal.invariant-loop-y
invariant-loop-y l = IsGathered l.rounds.sizes l.rounds.held l.fn.level l.fn.round l.left l.next

abbrev pub decreases-loop-y : goal.decreases-loop-y
decreases-loop-y l = l.left
