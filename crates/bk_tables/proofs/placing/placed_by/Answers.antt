use Rattle.std.proofs.Common.{List, get_or, map, reverse, take, ◌≡◌, ◌++◌, ◌∙◌, ap}
use Rattle.bk_cert.specs.declared.place.CertRef.{CertRef}
use Rattle.bk_flatten.proofs.Whole.{anchor_present, anchor_way}
use Rattle.bk_tables.specs.private.Placing.{placed_with}
use Rattle.bk_tables.proofs.Places.{more_placed, nobody}
use Rattle.bk_tables.proofs.placing.placed_by.Goals as goal

pub extend-requires-clause-present : goal.extend-requires-clause-present
extend-requires-clause-present c = anchor_present c.args.rounds.now.sizes c.args.rounds.now.held c.args.anchors.now c.loop-anchor.anchor-index nobody c.requires c.loop-anchor-test.true

pub extend-requires-clause-kept : goal.extend-requires-clause-kept
extend-requires-clause-kept c = (
  reverse (take c.loop-anchor.anchor-index c.args.anchors.now),
  anchor_way c.args.rounds.now.sizes c.args.rounds.now.held c.args.anchors.now c.loop-anchor.anchor-index nobody c.requires c.loop-anchor-test.true,
  c.loop-anchor.invariant.order,
)

pub loop-anchor-preserved : goal.loop-anchor-preserved
loop-anchor-preserved c =
    let z = c.args.rounds.now.sizes in
    let held = c.args.rounds.now.held in
    let anchor : CertRef = get_or c.args.anchors.now c.loop-anchor.anchor-index nobody in
    let items : c.add_part.new.placed.items ≡ c.loop-anchor.placed.items ++ map (placed_with anchor.round) c.in_ok-part.part.items =
    c.in_ok-add_part.ensures ∙ ap (λ (part : List CertRef). c.loop-anchor.placed.items ++ map (placed_with anchor.round) part) c.deref.ensures.value in
    rw items (more_placed z held c.args.anchors.now c.loop-anchor.anchor-index c.loop-anchor.flat c.extend.new.self c.in_ok-part.part.items c.loop-anchor.placed.items c.requires c.loop-anchor-test.true
    c.loop-anchor.invariant c.in_ok-part.ensures.part c.in_ok-part.ensures.order)
