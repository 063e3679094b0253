use Rattle.std.proofs.Common.{◌≡◌, ◌≤◌, ◌+◌, ◌-◌, ◌*◌, ◌++◌, take, drop, vec_len}
use Rattle.std.specs.Vec.{vec_capacity}
use Rattle.bk_report.specs.Lines.{text_of}
use Rattle.bk_report.specs.RunLines.{rows_lines}
use Rattle.bk_report.proofs.rows.put_lines.Given as goal

abbrev pub invariant-loop-done : goal.invariant-loop-done
invariant-loop-done l = record {
  text : l.text.items ≡ l.initial.text.items ++ text_of (take l.done (drop l.start (rows_lines l.receipts l.rows)));
  room : vec_capacity l.initial.text ≤ vec_capacity l.text;
  size : vec_len l.text ≤ vec_len l.initial.text + 96 * l.done;
  within : l.done ≤ l.count;
}

abbrev pub decreases-loop-done : goal.decreases-loop-done
decreases-loop-done l = l.count - l.done
