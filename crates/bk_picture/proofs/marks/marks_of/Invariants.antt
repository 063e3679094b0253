use Rattle.std.proofs.Common.{take}
use Rattle.bk_picture.specs.private.Marks.{AreMarks}
use Rattle.bk_picture.proofs.marks.marks_of.Given as goal

abbrev pub invariant-loop-place : goal.invariant-loop-place
invariant-loop-place l = AreMarks (take l.place-index l.order) l.from l.count l.marks.items
