use Rattle.std.proofs.Common.{◌≡◌, ◌≤◌, ◌+◌, ◌-◌, ◌*◌, take, drop, length}
use Rattle.bk_report.specs.Lines.{text_of}
use Rattle.bk_report.specs.RunLines.{rows_lines}
use Rattle.bk_report.proofs.rows.write_lines.Given as goal

abbrev pub invariant-loop-done : goal.invariant-loop-done
invariant-loop-done l = record {
  text : drop l.at l.text ≡ text_of (take l.done (drop (l.start + (l.count - l.done)) (rows_lines l.receipts l.rows)));
  within : l.at ≤ length l.text;
  size : length l.text ≤ l.at + 96 * l.done;
}
