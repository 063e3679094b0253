use Rattle.std.proofs.Common.{◌≡◌, ◌≤◌, ◌*◌, take, sum}
use Rattle.bk_rounds.proofs.weights.Weights.new.Given as goal

abbrev pub invariant-loop-weight : goal.invariant-loop-weight
invariant-loop-weight l = record {
  is : l.total ≡ sum (take l.weight-index l.weights);
  light : l.total ≤ 4294967295 * l.weight-index;
}
