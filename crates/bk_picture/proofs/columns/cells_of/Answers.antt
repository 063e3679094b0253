use Rattle.std.proofs.Common.{arith}
use Rattle.bk_picture.specs.Picture.{graph_with}
use Rattle.bk_picture.proofs.Filling.{cells_more, cells_all}
use Rattle.bk_picture.proofs.columns.cells_of.Goals as goal

pub loop-author-preserved : goal.loop-author-preserved
loop-author-preserved c = λ anchors order at. rw c.in_ok-push.ensures.items
    (cells_more (graph_with c.args.rounds.now.sizes c.args.rounds.now.held anchors order) c.args.from c.args.round c.loop-author.author c.loop-author.cells.items c.cell_of.result
    (c.loop-author.invariant anchors order at)
    (c.cell_of.ensures anchors order (c.circle_of-circle.ensures anchors order (at c.loop-author.author (omega (arith, c.loop-author-test.true, c.members-members.ensures.few))))))

pub returns : goal.returns
returns c = λ anchors order at.
    cells_all (graph_with c.args.rounds.now.sizes c.args.rounds.now.held anchors order) c.args.from c.args.round c.loop-author.author c.loop-author.cells.items
    (c.loop-author.invariant anchors order at)
    (omega (arith, c.loop-author-test.false, c.loop-author.auto.author-end, c.members-members.ensures.is))
