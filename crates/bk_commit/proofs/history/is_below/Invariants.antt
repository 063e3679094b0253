use Rattle.std.proofs.Common.{◌≤◌, ◌-◌}
use Rattle.bk_commit.specs.Level.{IsLevel}
use Rattle.bk_commit.proofs.history.is_below.Given as goal

abbrev pub invariant-loop-round : goal.invariant-loop-round
invariant-loop-round l = record {
  level : IsLevel l.rounds.sizes l.rounds.held l.fn.a l.round l.level;
  low : l.b.round ≤ l.round;
  high : l.round ≤ l.fn.a.round;
}

abbrev pub decreases-loop-round : goal.decreases-loop-round
decreases-loop-round l = l.round - l.b.round
