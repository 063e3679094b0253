use Rattle.std.proofs.Common.{◌≡◌, ◌++◌, take}
use Rattle.bk_report.specs.Lines.{text_of}
use Rattle.bk_report.specs.Proofs.{path_lines}
use Rattle.bk_report.proofs.proof.push_path.Given as goal

abbrev pub invariant-loop-digest : goal.invariant-loop-digest
invariant-loop-digest l = l.text.items ≡ l.initial.text.items ++ text_of (take l.digest-index (path_lines l.path))
