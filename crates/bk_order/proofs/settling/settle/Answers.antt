use Rattle.std.proofs.Common.{◌∙◌, ◌++◌, ◌∷◌, List, refl, sym, ap, subst, arith, get_or}
use Rattle.std.specs.List.{Contains}
use Rattle.bk_cert.specs.declared.place.CertRef.{CertRef}
use Rattle.bk_flatten.specs.Order.{IsOrder}
use Rattle.bk_order.proofs.Ordering.{next_present, next_way, added_present, settling_starts, settling_on, settling_ends}
use Rattle.std.specs.Prelude.{reverse, take}
use Rattle.bk_order.proofs.settling.settle.Goals as goal

pub loop-anchor-init : goal.loop-anchor-init
loop-anchor-init c = settling_starts c.args.rounds.now.sizes c.args.rounds.now.held c.args.batches.now c.args.settled.now
    (record { walk = c.advance.new.self; flat = c.args.settled.now.flat; list = c.args.settled.now.list }) c.deref-anchor-items.result.now c.sound.ensures.clear c.requires
    (c.in_ok-anchors.ensures.part ∙ ap (λ t. c.args.settled.now.walk ++ t) (sym c.deref-anchor-items.ensures.value)) c.in_ok-anchors.ensures.committed refl refl refl

pub extend-requires-clause-present : goal.extend-requires-clause-present
extend-requires-clause-present c = next_present c.args.rounds.now.sizes c.args.rounds.now.held c.args.settled.now.walk c.deref-anchor-items.result.now c.loop-anchor.invariant.committed
    c.loop-anchor.anchor-index (record { round = 0; author = 0 }) c.loop-anchor-test.true

pub extend-requires-clause-kept : goal.extend-requires-clause-kept
extend-requires-clause-kept c = (
  reverse (c.args.settled.now.walk ++ take c.loop-anchor.anchor-index c.deref-anchor-items.result.now),
  next_way c.args.rounds.now.sizes c.args.rounds.now.held c.args.settled.now.walk c.deref-anchor-items.result.now c.loop-anchor.invariant.committed
      c.loop-anchor.anchor-index (record { round = 0; author = 0 }) c.loop-anchor-test.true,
  c.loop-anchor.invariant.ordered,
)

pub name-requires : goal.name-requires
name-requires c = record {
  present = λ a t.
      let z = c.args.rounds.now.sizes in
      let held = c.args.rounds.now.held in
      let d : CertRef = record { round = 0; author = 0 } in
      let old : List CertRef = c.args.settled.now.walk in
      let new : List CertRef = c.deref-anchor-items.result.now in
      let i = c.loop-anchor.anchor-index in
      let at : CertRef = get_or new i d in
      let ps : List CertRef = reverse (old ++ take i new) in
      let part : List CertRef = c.in_ok-part.part.items in
      let here = next_present z held old new c.loop-anchor.invariant.committed i d c.loop-anchor-test.true in
      let way = next_way z held old new c.loop-anchor.invariant.committed i d c.loop-anchor-test.true in
      added_present z held at ps c.loop-anchor.settled.flat part here way
      (subst (IsOrder z held (at ∷ ps)) c.in_ok-part.ensures.part (c.in_ok-part.ensures.order ps way)) a
      (subst (λ (xs : List CertRef). Contains xs a) c.deref.ensures.value t);
}

pub loop-anchor-preserved : goal.loop-anchor-preserved
loop-anchor-preserved c =
    settling_on c.args.rounds.now.sizes c.args.rounds.now.held c.args.batches.now c.args.settled.now.walk c.deref-anchor-items.result.now c.loop-anchor.anchor-index (record { round = 0; author = 0 })
    c.loop-anchor.settled (record { walk = c.loop-anchor.settled.walk; flat = c.extend.new.self; list = c.name.new.self }) c.deref.result.now c.loop-anchor-test.true
    c.loop-anchor.invariant refl (c.in_ok-part.ensures.part ∙ ap (λ t. c.loop-anchor.settled.flat ++ t) (sym c.deref.ensures.value)) c.in_ok-part.ensures.order c.in_ok-name.ensures.named c.in_ok-name.ensures.found

pub find-requires : goal.find-requires
find-requires c = record { before = c.loop-anchor.invariant.found }

pub returns : goal.returns
returns c = settling_ends c.args.rounds.now.sizes c.args.rounds.now.held c.args.batches.now c.args.settled.now.walk c.deref-anchor-items.result.now c.loop-anchor.anchor-index c.loop-anchor.settled
    (record { walk = c.loop-anchor.settled.walk; flat = c.loop-anchor.settled.flat; list = c.find.new.self }) (let low = c.loop-anchor-test.false in omega (arith, low))
    c.loop-anchor.invariant refl refl c.find.ensures.digests c.in_ok-find.ensures.whole
