-- The orders of two parts of what is held.
use Rattle.std.proofs.Common.{◌≡◌, ℕ, List, [], ◌∷◌, ◌++◌, reverse, refl, sym, ap, subst, ◌∙◌, ◌⊎◌, inl, inr, ⊎_elim, arith}
use Rattle.std.specs.List.{flat_map}
use Rattle.std.proofs.lemmas.Bool.{cases_lt}
use Rattle.std.proofs.lemmas.List.{append-nil, reverse-append, reverse-reverse}
use Rattle.std.proofs.lemmas.List.Concat.{flat_map-append}
use Rattle.bk_base.specs.declared.kind.Kind.TheVariants as kind
use Rattle.bk_base.specs.Feed.{Frame, frame_of}
use Rattle.bk_committee.specs.Payload.{CommitteeValue, sizes_of}
use Rattle.bk_committee.specs.Sizes.{Sizes}
use Rattle.bk_cert.specs.Node.{Node}
use Rattle.bk_cert.specs.Clear.{IsClear}
use Rattle.bk_cert.specs.declared.place.CertRef.{CertRef}
use Rattle.bk_evidence.specs.Batches.{Batch, AreApart}
use Rattle.bk_commit.specs.Growth.{IsPartOf, IsPrefix}
use Rattle.bk_rounds.specs.Votes.{IsVoted}
use Rattle.bk_commit.specs.Ordering.{IsCommittedBack, IsWayBack}
use Rattle.bk_commit.proofs.Grown.{voted_more, way_back_more, meets_voted}
use Rattle.bk_flatten.specs.Order.{IsOrder}
use Rattle.bk_flatten.specs.Batches.{Payloads, once, named_at, digests_of, before_missing}
use Rattle.bk_flatten.proofs.Orders.{order_goes_on}
use Rattle.bk_flatten.proofs.Growth.{under_begins}
use Rattle.bk_order.specs.Stops.{HasNoStop}
use Rattle.bk_order.specs.Orders.{Ordered, IsOrderOf}
use Rattle.bk_order.specs.Agreement.{OneBegins, OrderBegins}
use Rattle.bk_order.proofs.Ordering.{order_stays, digests_stay, once_begins}

-- the other list ends with the one
abbrev pub Ends : {X : Type 0} → List X → List X → Type 0
Ends {X} xs ys = (front : List X) × (ys ≡ front ++ xs)

pub begins_of : {X : Type 0} (xs ys : List X) → Ends (reverse xs) (reverse ys) → IsPrefix xs ys
begins_of {X} xs ys (front, e) = (reverse front, sym (reverse-reverse ys) ∙ (ap reverse e ∙ (reverse-append front (reverse xs) ∙ ap (λ (zs : List X). zs ++ reverse front) (reverse-reverse xs))))

-- of two beginnings of a list one begins the other
pub both_begin : {X : Type 0} (xs ys zs : List X) → IsPrefix xs zs → IsPrefix ys zs → OneBegins xs ys
both_begin {X} [] ys zs h k = inl (ys, refl)
both_begin {X} (x ∷ xs) [] zs h k = inr (x ∷ xs, refl)
both_begin {X} (x ∷ xs) (y ∷ ys) zs (r, e) (s, f) =
    let both : x ∷ (xs ++ r) ≡ y ∷ (ys ++ s) = sym e ∙ f in
    let head : x ≡ y = cc in
    let tail : xs ++ r ≡ ys ++ s = cc in
    ⊎_elim
    (λ (h : IsPrefix xs ys). let g : ys ≡ xs ++ h.0 = h.1 in let all : y ∷ ys ≡ x ∷ (xs ++ h.0) = cc in inl (h.0, all))
    (λ (h : IsPrefix ys xs). let g : xs ≡ ys ++ h.0 = h.1 in let all : x ∷ xs ≡ y ∷ (ys ++ h.0) = cc in inr (h.0, all))
    (both_begin xs ys (xs ++ r) (r, refl) (s, tail))

-- ---- the anchors and the order of two parts of a clear set

module _ (z : Sizes) (a b w : List Node) (clear : IsClear w) (into : IsPartOf a w) (other : IsPartOf b w) where
  -- newest first, the committed anchors of the one part end with those of the other
  pub backs_meet : (xs ys : List CertRef) → IsCommittedBack z a xs → IsCommittedBack z b ys → Ends xs ys ⊎ Ends ys xs
  backs_meet [] ys h k = inl (ys, sym (append-nil ys))
  backs_meet (x ∷ ps) [] h k = inr (x ∷ ps, sym (append-nil (x ∷ ps)))
  backs_meet (x ∷ ps) (y ∷ qs) h k =
      let x_voted : IsVoted z w x = voted_more z a w into x h.0.voted in
      let y_voted : IsVoted z w y = voted_more z b w other y k.0.voted in
      let x_way : IsWayBack z w x ps = way_back_more z a w into clear x ps h.0.voted.anchor.present h.1 in
      let y_way : IsWayBack z w y qs = way_back_more z b w other clear y qs k.0.voted.anchor.present k.1 in
      ⊎_elim
      (λ lt. inr (meets_voted z w clear y qs y_voted y_way x ps x_voted.anchor x_way (omega arith)))
      (λ ge. inl (meets_voted z w clear x ps x_voted x_way y qs y_voted.anchor y_way (omega arith)))
      (cases_lt y.round x.round)

orders_begin : (z : Sizes) (w : List Node) (xs ys os qs : List CertRef) → Ends xs ys → IsOrder z w xs os → IsOrder z w ys qs → IsPrefix os qs
orders_begin z w [] ys os qs e h k = (qs, ap (λ (zs : List CertRef). zs ++ qs) (sym h))
orders_begin z w (x ∷ ps) ys os qs (front, e) h k = order_goes_on z w front x ps os qs h (subst (λ (zs : List CertRef). IsOrder z w zs qs) e k)

-- ---- payloads

digests_begin : (w : List Node) (os qs : List CertRef) → IsPrefix os qs → IsPrefix (digests_of w os) (digests_of w qs)
digests_begin w os qs (rest, e) =
    let h = once_begins (flat_map (named_at w) os) (flat_map (named_at w) rest) in
    (h.0, ap once (ap (flat_map (named_at w)) e ∙ flat_map-append (named_at w) os rest) ∙ h.1)

module _ (few more many : List Batch) (into : IsPartOf few many) (other : IsPartOf more many) (apart : AreApart many) where
  -- the payloads under digests of which the one list begins the other
  payloads_meet : (ds es : List (List ℕ)) → IsPrefix ds es → OneBegins (before_missing few ds).list (before_missing more es).list
  payloads_meet ds es (rest, e) = both_begin (before_missing few ds).list (before_missing more es).list (before_missing many es).list
      (subst (λ (t : List (List ℕ)). IsPrefix (before_missing few ds).list (before_missing many t).list) (sym e) (under_begins few many into apart ds rest))
      (subst (λ (t : List (List ℕ)). IsPrefix (before_missing more es).list (before_missing many t).list) (append-nil es) (under_begins more many other apart es []))

pub turned : {X : Type 0} (xs ys : List X) → OneBegins xs ys → OneBegins ys xs
turned {X} xs ys h = ⊎_elim (λ (t : IsPrefix xs ys). inr t) (λ (t : IsPrefix ys xs). inl t) h

-- ---- of frames

module _ (k : CommitteeValue) (one other whole : List Frame) (o p : Ordered) (into : IsPartOf one whole) (beside : IsPartOf other whole) (none : HasNoStop k whole) (h : IsOrderOf k one o) (g : IsOrderOf k other p) where
  certs_left : IsPartOf h.certs none.certs
  certs_left c t = let s = h.are_certs.sound c t in none.are_certs.complete c (s.0, into (frame_of kind.Certificate s.0) s.1, s.2)

  certs_right : IsPartOf g.certs none.certs
  certs_right c t = let s = g.are_certs.sound c t in none.are_certs.complete c (s.0, beside (frame_of kind.Certificate s.0) s.1, s.2)

  batches_left : IsPartOf h.batches none.batches
  batches_left c t = let s = h.are_batches.sound c t in none.are_batches.complete c (s.0, into (frame_of kind.Batch s.0) s.1, s.2)

  batches_right : IsPartOf g.batches none.batches
  batches_right c t = let s = g.are_batches.sound c t in none.are_batches.complete c (s.0, beside (frame_of kind.Batch s.0) s.1, s.2)

  clear : IsClear none.certs
  clear = none.holds.clear

  o_order : IsOrder (sizes_of k) none.certs (reverse o.anchors) o.order
  o_order = order_stays (sizes_of k) h.certs none.certs certs_left clear (reverse o.anchors) o.order h.holds.committed h.holds.ordered

  p_order : IsOrder (sizes_of k) none.certs (reverse p.anchors) p.order
  p_order = order_stays (sizes_of k) g.certs none.certs certs_right clear (reverse p.anchors) p.order g.holds.committed g.holds.ordered

  o_digests : digests_of h.certs o.order ≡ digests_of none.certs o.order
  o_digests = digests_stay (sizes_of k) h.certs none.certs certs_left clear (reverse o.anchors) o.order h.holds.committed h.holds.ordered

  p_digests : digests_of g.certs p.order ≡ digests_of none.certs p.order
  p_digests = digests_stay (sizes_of k) g.certs none.certs certs_right clear (reverse p.anchors) p.order g.holds.committed g.holds.ordered

  meet : OrderBegins o p ⊎ OrderBegins p o
  meet = ⊎_elim
      (λ (e : Ends (reverse o.anchors) (reverse p.anchors)). inl (begins_of o.anchors p.anchors e, orders_begin (sizes_of k) none.certs (reverse o.anchors) (reverse p.anchors) o.order p.order e o_order p_order))
      (λ (e : Ends (reverse p.anchors) (reverse o.anchors)). inr (begins_of p.anchors o.anchors e, orders_begin (sizes_of k) none.certs (reverse p.anchors) (reverse o.anchors) p.order o.order e p_order o_order))
      (backs_meet (sizes_of k) h.certs g.certs none.certs clear certs_left certs_right (reverse o.anchors) (reverse p.anchors) h.holds.committed g.holds.committed)

  lists : OneBegins (before_missing h.batches (digests_of none.certs o.order)).list (before_missing g.batches (digests_of none.certs p.order)).list
  lists = ⊎_elim
      (λ (e : OrderBegins o p). payloads_meet h.batches g.batches none.batches batches_left batches_right none.holds.apart (digests_of none.certs o.order) (digests_of none.certs p.order) (digests_begin none.certs o.order p.order e.1))
      (λ (e : OrderBegins p o). turned (before_missing g.batches (digests_of none.certs p.order)).list (before_missing h.batches (digests_of none.certs o.order)).list
      (payloads_meet g.batches h.batches none.batches batches_right batches_left none.holds.apart (digests_of none.certs p.order) (digests_of none.certs o.order) (digests_begin none.certs p.order o.order e.1)))
      meet

  o_payloads : o.payloads ≡ before_missing h.batches (digests_of none.certs o.order)
  o_payloads = h.holds.payloads_are ∙ ap (before_missing h.batches) o_digests

  p_payloads : p.payloads ≡ before_missing g.batches (digests_of none.certs p.order)
  p_payloads = g.holds.payloads_are ∙ ap (before_missing g.batches) p_digests

  -- the orders of two parts agree
  pub parts_agree : (OrderBegins o p ⊎ OrderBegins p o) × OneBegins o.payloads.list p.payloads.list
  parts_agree = (
    meet,
    subst (λ (t : Payloads). OneBegins t.list p.payloads.list) (sym o_payloads)
        (subst (λ (t : Payloads). OneBegins (before_missing h.batches (digests_of none.certs o.order)).list t.list) (sym p_payloads) lists),
  )
