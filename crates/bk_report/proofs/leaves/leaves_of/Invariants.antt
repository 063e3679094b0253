use Rattle.std.proofs.Common.{◌≡◌, take}
use Rattle.bk_report.specs.Leaves.{leaves_of}
use Rattle.bk_report.proofs.leaves.leaves_of.Given as goal

abbrev pub invariant-loop-row : goal.invariant-loop-row
invariant-loop-row l = l.leaves.items ≡ leaves_of (take l.row-index l.rows)
