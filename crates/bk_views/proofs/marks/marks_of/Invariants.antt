use Rattle.std.proofs.Common.{take}
use Rattle.bk_views.specs.private.States.{AreMarks}
use Rattle.bk_views.proofs.marks.marks_of.Given as goal

abbrev pub invariant-loop-anchor : goal.invariant-loop-anchor
invariant-loop-anchor l = AreMarks (take l.anchor-index l.anchors) l.end l.marks.items
