use Rattle.std.proofs.Common.{arith}
use Rattle.bk_picture.specs.Picture.{graph_with}
use Rattle.bk_picture.proofs.Filling.{columns_more, columns_all, mark_at}
use Rattle.bk_picture.proofs.columns.columns_of.Goals as goal

pub loop-k-preserved : goal.loop-k-preserved
loop-k-preserved c = λ anchors order are. rw c.in_ok-push.ensures.items
    (columns_more (graph_with c.args.rounds.now.sizes c.args.rounds.now.held anchors order) c.args.rows.now c.args.from c.loop-k.k c.loop-k.columns.items c.in_ok-column.column
    (c.loop-k.invariant anchors order are)
    (c.in_ok-column.ensures anchors order (mark_at order c.args.from c.args.count c.loop-k.k c.index-marks-k.result c.args.marks.now are c.loop-k-test.true c.index-marks-k.is)))

pub returns : goal.returns
returns c = λ anchors order are.
    columns_all (graph_with c.args.rounds.now.sizes c.args.rounds.now.held anchors order) c.args.rows.now c.args.from c.loop-k.k c.args.count c.loop-k.columns.items
    (c.loop-k.invariant anchors order are)
    (omega (arith, c.loop-k-test.false, c.loop-k.auto.k-end))
