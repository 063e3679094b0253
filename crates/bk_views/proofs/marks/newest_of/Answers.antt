use Rattle.std.proofs.Common.{◌<◌, ◌↔◌, take, sym, subst}
use Rattle.std.proofs.lemmas.List.{take_more, take_all}
use Rattle.bk_views.specs.Anchors.{IsPassed}
use Rattle.bk_views.proofs.Marking.{passed_more}
use Rattle.bk_views.proofs.marks.newest_of.Goals as goal

pub loop-anchor-preserved : goal.loop-anchor-preserved
loop-anchor-preserved c = λ round. subst (λ xs. round < c.later-newest.result ↔ IsPassed xs round) (sym (take_more c.args.anchors.now c.loop-anchor.anchor-index _ c.loop-anchor-test.true))
    (passed_more (take c.loop-anchor.anchor-index c.args.anchors.now) _ c.loop-anchor.newest c.later-newest.result c.loop-anchor.invariant c.later-newest.ensures round)

pub returns : goal.returns
returns c = λ round. subst (λ xs. round < c.loop-anchor.newest ↔ IsPassed xs round)
    (take_all c.loop-anchor.anchor-index c.args.anchors.now c.loop-anchor-test.false) (c.loop-anchor.invariant round)
