use Rattle.std.proofs.Common.{◌≤◌}
use Rattle.bk_script.proofs.TextLines.{GoesOn}
use Rattle.bk_script.proofs.reading.line_end.Given as goal

abbrev pub invariant-loop-end : goal.invariant-loop-end
invariant-loop-end l = record {
  from : l.start ≤ l.end;
  on : GoesOn l.text l.start l.end;
}
