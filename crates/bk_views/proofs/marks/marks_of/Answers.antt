use Rattle.bk_views.proofs.Marking.{marked_next}
use Rattle.bk_views.proofs.marks.marks_of.Goals as goal

pub loop-anchor-preserved : goal.loop-anchor-preserved
loop-anchor-preserved c = rw c.mark.ensures (marked_next c.args.anchors.now c.loop-anchor.anchor-index c.args.end c.loop-anchor.marks.items _ c.loop-anchor-test.true c.loop-anchor.invariant)
