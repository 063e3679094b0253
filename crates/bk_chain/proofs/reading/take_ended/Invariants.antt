use Rattle.std.proofs.Common.{◌≤◌, length}
use Rattle.bk_chain.proofs.Walking.{HasWalked}
use Rattle.bk_chain.proofs.reading.take_ended.Given as goal

abbrev pub invariant-loop-end : goal.invariant-loop-end
invariant-loop-end l = record {
  start : l.start ≤ l.end;
  few : length l.links.items ≤ l.start;
  walked : HasWalked l.text l.links.items l.start l.end;
}
