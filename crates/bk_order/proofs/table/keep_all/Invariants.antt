use Rattle.std.specs.Vec.Iter.{into_iter_items}
use Rattle.bk_frames.specs.Cutting.{frames_in}
use Rattle.bk_order.specs.private.Joined.{IsKeeping}
use Rattle.bk_order.proofs.table.keep_all.Given as goal

abbrev pub invariant-loop-frame : goal.invariant-loop-frame
invariant-loop-frame l =
    goal.iterator-loop-frame.can_next l.frame-iterator ×
    goal.iterator-loop-frame.is_finite l.frame-iterator ×
    IsKeeping l.committee l.fn.table l.table l.fn.judged.frames (frames_in (into_iter_items l.frame-iterator)) (into_iter_items l.left)
