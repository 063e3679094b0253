use Rattle.std.proofs.Common.{◌<◌}
use Rattle.bk_commit.specs.private.Way.{IsOnTheWay}
use Rattle.bk_commit.proofs.committing.way_back.Given as goal

abbrev pub invariant-loop-round : goal.invariant-loop-round
invariant-loop-round l = IsOnTheWay l.rounds.sizes l.rounds.held l.fn.last l.back.items l.round l.level × (l.fn.floor < l.round)

abbrev pub decreases-loop-round : goal.decreases-loop-round
decreases-loop-round l = l.round
