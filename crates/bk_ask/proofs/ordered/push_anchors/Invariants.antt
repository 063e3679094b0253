use Rattle.std.proofs.Common.{◌≡◌, ◌++◌, take}
use Rattle.bk_report.specs.Lines.{text_of}
use Rattle.bk_report.specs.RunLines.{anchor_lines}
use Rattle.bk_ask.proofs.ordered.push_anchors.Given as goal

abbrev pub invariant-loop-place : goal.invariant-loop-place
invariant-loop-place l = l.text.items ≡ l.initial.text.items ++ text_of (take l.place-index (anchor_lines l.anchors))
