use Rattle.std.proofs.Common.{take, sym, subst}
use Rattle.std.proofs.lemmas.List.{take_more}
use Rattle.bk_picture.specs.private.Last.{IsLatest}
use Rattle.bk_picture.proofs.LastRounds.{latest_more}
use Rattle.bk_picture.proofs.last.latest_of.Goals as goal

pub loop-place-preserved : goal.loop-place-preserved
loop-place-preserved c =
    subst (λ xs. IsLatest xs c.later-latest.result)
    (sym (take_more c.args.places.now c.loop-place.place-index _ c.loop-place-test.true))
    (latest_more (take c.loop-place.place-index c.args.places.now) _ c.loop-place.latest c.later-latest.result
    c.later-latest.ensures c.loop-place.invariant)
