use Rattle.std.proofs.Common.{◌≤◌, ◌+◌, ◌-◌, length}
use Rattle.bk_script.specs.Script.{judged_in, too_long}
use Rattle.bk_script.proofs.ListLines.{HasTaken}
use Rattle.bk_script.proofs.making.take_text.Given as goal

abbrev pub invariant-loop-start : goal.invariant-loop-start
invariant-loop-start l = record {
  few : l.count ≤ l.start;
  within : l.start ≤ length l.text + 1;
  taken : HasTaken judged_in too_long l.most l.initial.script l.script l.count l.start l.text;
}

abbrev pub decreases-loop-start : goal.decreases-loop-start
decreases-loop-start l = length l.text + 1 - l.start
