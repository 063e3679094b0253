use Rattle.std.proofs.Common.{◌+◌, ◌*◌, arith, subst}
use Rattle.bk_views.specs.private.States.{AreRowsBelow}
use Rattle.bk_views.proofs.Listing.{committed_anchor, rows_more, rows_all}
use Rattle.bk_views.proofs.Marking.{marked_true, marked_iff, passed_iff}
use Rattle.bk_views.proofs.anchors.anchor_rows.Goals as goal

pub row_of-row-requires-clause-anchor : goal.row_of-row-requires-clause-anchor
row_of-row-requires-clause-anchor c = λ yes. committed_anchor c.args.rounds.now.sizes c.args.rounds.now.held c.args.anchors.now (2 * c.loop-k.k + 1) c.requires
    ((c.in_ok-marks.ensures.marked (2 * c.loop-k.k + 1) (omega (arith, c.loop-k-test.true))).0 (marked_true c.in_ok-marks.marks.items (2 * c.loop-k.k + 1) c.index.result.now (omega (arith, c.loop-k-test.true, c.in_ok-marks.ensures.sized)) c.index.ensures yes))

pub loop-k-preserved : goal.loop-k-preserved
loop-k-preserved c = rw c.in_ok-push.ensures.items (rows_more c.args.rounds.now.sizes c.args.rounds.now.held c.args.anchors.now c.loop-k.k c.loop-k.rows.items c.row_of-row.result c.loop-k.invariant
    (c.row_of-row.ensures c.args.anchors.now
    (marked_iff c.in_ok-marks.marks.items c.args.anchors.now (2 * c.loop-k.k + 1) c.index.result.now c.index.ensures (omega (arith, c.loop-k-test.true, c.in_ok-marks.ensures.sized))
    (c.in_ok-marks.ensures.marked (2 * c.loop-k.k + 1) (omega (arith, c.loop-k-test.true))))
    (passed_iff c.args.anchors.now (2 * c.loop-k.k + 1) c.newest_of-newest.result (c.newest_of-newest.ensures (2 * c.loop-k.k + 1)))))

pub returns : goal.returns
returns c = rows_all c.args.rounds.now.sizes c.args.rounds.now.held c.args.anchors.now c.top.result c.loop-k.rows.items
    (subst (λ n. AreRowsBelow c.args.rounds.now.sizes c.args.rounds.now.held c.args.anchors.now n c.loop-k.rows.items) (omega (arith, c.loop-k-test.false, c.loop-k.auto.k-end)) c.loop-k.invariant)
    c.top.ensures.highest c.top.ensures.reached
