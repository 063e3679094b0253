use Rattle.std.proofs.Common.{length, ◌-◌, ◌≤◌, ◌*◌, ◌^◌}
use Rattle.bk_chain.proofs.Following.{Walked}
use Rattle.bk_chain.proofs.judging.judge.Given as goal

abbrev pub invariant-loop-at : goal.invariant-loop-at
invariant-loop-at l = record {
  walked : Walked l.links l.at l.last l.transactions;
  some : 1 ≤ l.at;
  within : l.at ≤ length l.links;
  few : l.transactions ≤ l.at * 2 ^ 32;
}

abbrev pub decreases-loop-at : goal.decreases-loop-at
decreases-loop-at l = length l.links - l.at
