use Rattle.std.proofs.Common.{◌≤◌, ◌+◌, ◌-◌, length}
use Rattle.bk_script.proofs.ListLines.{HasTaken}
use Rattle.bk_script.proofs.listing.take_text.Given as goal

abbrev pub invariant-loop-start : goal.invariant-loop-start
invariant-loop-start g l = record {
  few : l.count ≤ l.start;
  within : l.start ≤ length l.text + 1;
  taken : HasTaken g.L.LineList.with_line (λ n. n) l.most (g.L.LineList.value l.initial.list) (g.L.LineList.value l.list) l.count l.start l.text;
}

abbrev pub decreases-loop-start : goal.decreases-loop-start
decreases-loop-start g l = length l.text + 1 - l.start
