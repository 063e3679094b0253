use Rattle.std.proofs.Common.{◌+◌, ◌-◌, ◌↔◌, ℕ, vec_len}
use Rattle.bk_rounds.specs.Members.{Has}
use Rattle.bk_flatten.specs.private.Part.{marks_of}
use Rattle.bk_flatten.proofs.part.make_rows.Given as goal

abbrev pub invariant-loop-marks : goal.invariant-loop-marks
invariant-loop-marks l = (r x : ℕ) → Has (marks_of l.marks.items r) x ↔ Has (marks_of l.fn.marks.items r) x

abbrev pub decreases-loop-marks : goal.decreases-loop-marks
decreases-loop-marks l = l.round + 1 - vec_len l.marks
