use Rattle.bk_flatten.proofs.Parts.{rows_more}
use Rattle.bk_flatten.proofs.part.make_rows.Goals as goal

pub loop-marks-preserved : goal.loop-marks-preserved
loop-marks-preserved c = rw c.in_ok-push.ensures.items (rows_more c.args.marks.now.items c.loop-marks.marks.items c.none.result c.none.ensures c.loop-marks.invariant)
