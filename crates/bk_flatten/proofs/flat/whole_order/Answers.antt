use Rattle.std.proofs.Common.{◌≡◌, ◌+◌, ◌∷◌, ◌∙◌, List, sym, ap, subst, arith, get_or, take, reverse}
use Rattle.std.proofs.lemmas.List.{take_more, take_all}
use Rattle.bk_cert.specs.declared.place.CertRef.{CertRef}
use Rattle.bk_commit.specs.Ordering.{IsCommitted}
use Rattle.bk_flatten.specs.Order.{IsOrder}
use Rattle.bk_flatten.proofs.Whole.{anchor_present, anchor_way, reverse_push}
use Rattle.bk_flatten.proofs.flat.whole_order.Goals as goal

pub loop-a-init : goal.loop-a-init
loop-a-init c = c.new-flat.ensures

pub extend-requires-clause-present : goal.extend-requires-clause-present
extend-requires-clause-present c =
    let z = c.args.rounds.now.sizes in
    let held = c.args.rounds.now.held in
    let none : CertRef = record { round = 0; author = 0 } in
    let anchors : List CertRef = c.deref-a-items.result.now in
    let settled : IsCommitted z held anchors = subst (IsCommitted z held) (sym c.deref-a-items.ensures.value) c.in_ok-anchors.ensures in
    anchor_present z held anchors c.loop-a.a-index none settled c.loop-a-test.true

pub extend-requires-clause-kept : goal.extend-requires-clause-kept
extend-requires-clause-kept c =
    let z = c.args.rounds.now.sizes in
    let held = c.args.rounds.now.held in
    let none : CertRef = record { round = 0; author = 0 } in
    let anchors : List CertRef = c.deref-a-items.result.now in
    let settled : IsCommitted z held anchors = subst (IsCommitted z held) (sym c.deref-a-items.ensures.value) c.in_ok-anchors.ensures in
    (reverse (take c.loop-a.a-index anchors), anchor_way z held anchors c.loop-a.a-index none settled c.loop-a-test.true, c.loop-a.invariant)

pub loop-a-preserved : goal.loop-a-preserved
loop-a-preserved c =
    let z = c.args.rounds.now.sizes in
    let held = c.args.rounds.now.held in
    let none : CertRef = record { round = 0; author = 0 } in
    let anchors : List CertRef = c.deref-a-items.result.now in
    let settled : IsCommitted z held anchors = subst (IsCommitted z held) (sym c.deref-a-items.ensures.value) c.in_ok-anchors.ensures in
    let before : List CertRef = reverse (take c.loop-a.a-index anchors) in
    let a : CertRef = get_or anchors c.loop-a.a-index none in
    let more : reverse (take (c.loop-a.a-index + 1) anchors) ≡ a ∷ before =
    ap reverse (take_more anchors c.loop-a.a-index none c.loop-a-test.true) ∙ reverse_push (take c.loop-a.a-index anchors) a in
    subst (λ (ys : List CertRef). IsOrder z held ys c.extend.new.self) (sym more)
    (c.in_ok-extend.ensures.order before (anchor_way z held anchors c.loop-a.a-index none settled c.loop-a-test.true))

pub returns : goal.returns
returns c =
    let z = c.args.rounds.now.sizes in
    let held = c.args.rounds.now.held in
    let none : CertRef = record { round = 0; author = 0 } in
    let anchors : List CertRef = c.deref-a-items.result.now in
    let settled : IsCommitted z held anchors = subst (IsCommitted z held) (sym c.deref-a-items.ensures.value) c.in_ok-anchors.ensures in
    record {
      anchors = anchors;
      committed = settled;
      ordered = subst (λ (ys : List CertRef). IsOrder z held (reverse ys) c.loop-a.flat) (take_all c.loop-a.a-index anchors (omega arith)) c.loop-a.invariant;
    }
