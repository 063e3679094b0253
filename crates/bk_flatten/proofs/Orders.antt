-- The order of a larger held set goes on where that of a smaller one ends.
use Rattle.std.proofs.Common.{◌≡◌, List, [], ◌∷◌, ◌++◌, sym, ap, ◌∙◌, subst, ⊎_elim, append_assoc, reverse}
use Rattle.std.specs.List.{Contains}
use Rattle.std.proofs.lemmas.List.{append-nil}
use Rattle.std.proofs.lemmas.List.Elements.{Contains-append_cases}
use Rattle.bk_committee.specs.Sizes.{Sizes}
use Rattle.bk_cert.specs.Node.{Node}
use Rattle.bk_cert.specs.Clear.{IsClear}
use Rattle.bk_cert.specs.declared.place.CertRef.{CertRef}
use Rattle.bk_rounds.specs.Admission.{IsPresent}
use Rattle.bk_cert.proofs.Listed.{one_listing, same_listing}
use Rattle.bk_cert.proofs.Lists.{none_in_nil}
use Rattle.bk_commit.specs.Ordering.{InHistory, IsWayBack, IsCommittedBack}
use Rattle.bk_commit.specs.Growth.{IsPartOf, IsPrefix}
use Rattle.bk_commit.proofs.Grown.{history_more, history_back, committed_more, walk_present}
use Rattle.bk_flatten.specs.Order.{IsOrderBack, IsOrder, IsWholeOrder}

-- the order of a way back is one
pub one_order_back : (z : Sizes) (held : List Node) (x : CertRef) (ps xs ys : List CertRef) → IsOrderBack z held x ps xs → IsOrderBack z held x ps ys → xs ≡ ys
one_order_back z held x [] xs ys h k = one_listing xs ys (InHistory z held x) h k
one_order_back z held x (p ∷ ps) xs ys (front, part, before, lists, e) (front', part', before', lists', e') =
    let fronts : front ≡ front' = one_order_back z held p ps front front' before before' in
    let parts : part ≡ part' = one_listing part part' _ lists lists' in
    cc

-- the order stays in a larger set
pub order_back_more : (z : Sizes) (a b : List Node) → IsPartOf a b → IsClear b → (x : CertRef) (ps xs : List CertRef) → IsPresent z a x → IsWayBack z a x ps
    → IsOrderBack z a x ps xs → IsOrderBack z b x ps xs
order_back_more z a b part clear x [] xs here way h =
    same_listing xs _ _ (history_more z a b part x) (λ c t. history_back z a b part clear x c here t) h
order_back_more z a b part clear x (p ∷ ps) xs here way (front, listed, before, lists, e) =
    let prior : IsPresent z a p = way.0.earlier.anchor.present in (
      front,
      listed,
      order_back_more z a b part clear p ps front prior way.1 before,
      same_listing listed _ _
          (λ c t. (history_more z a b part x c t.0, λ s. t.1 (history_back z a b part clear p c prior s)))
          (λ c t. (history_back z a b part clear x c here t.0, λ s. t.1 (history_more z a b part p c s))) lists,
      e,
    )

-- further anchors only add to the order
pub order_goes_on : (z : Sizes) (held : List Node) (front : List CertRef) (x : CertRef) (ps xs ys : List CertRef)
    → IsOrder z held (x ∷ ps) xs → IsOrder z held (front ++ x ∷ ps) ys → IsPrefix xs ys
order_goes_on z held [] x ps xs ys h k = ([], one_order_back z held x ps ys xs k h ∙ sym (append-nil xs))
order_goes_on z held (y ∷ []) x ps xs ys h (front, part, before, lists, e) =
    (part, e ∙ ap (λ zs. zs ++ part) (one_order_back z held x ps front xs before h))
order_goes_on z held (y ∷ w ∷ ws) x ps xs ys h (front, part, before, lists, e) =
    let rec = order_goes_on z held (w ∷ ws) x ps xs front h before in
    (rec.0 ++ part, e ∙ (ap (λ us. us ++ part) rec.1 ∙ append_assoc xs rec.0 part))

pub orders_begin : (z : Sizes) (a b : List Node) → IsClear b → IsPartOf a b → (xs ys os qs : List CertRef)
    → IsCommittedBack z a xs → IsCommittedBack z b ys → IsOrder z a xs os → IsOrder z b ys qs → IsPrefix os qs
orders_begin z a b clear part [] ys os qs h k o q = (qs, ap (λ zs. zs ++ qs) (sym o))
orders_begin z a b clear part (x ∷ ps) ys os qs h k o q =
    let longer = committed_more z a b clear part (x ∷ ps) ys h k in
    order_goes_on z b longer.0 x ps os qs
    (order_back_more z a b part clear x ps os h.0.voted.anchor.present h.1 o)
    (subst (λ zs. IsOrder z b zs qs) longer.1 q)

-- the order of anchors is one
pub one_order : (z : Sizes) (held : List Node) (back xs ys : List CertRef) → IsOrder z held back xs → IsOrder z held back ys → xs ≡ ys
one_order z held [] xs ys h k = h ∙ sym k
one_order z held (a ∷ ps) xs ys h k = one_order_back z held a ps xs ys h k

pub whole_begins : (z : Sizes) (small large : List Node) (xs ys : List CertRef) → IsClear large → IsPartOf small large → IsWholeOrder z small xs → IsWholeOrder z large ys → IsPrefix xs ys
whole_begins z small large xs ys clear part h k =
    orders_begin z small large clear part (reverse h.anchors) (reverse k.anchors) xs ys h.committed k.committed h.ordered k.ordered

-- what is ordered is there
order_back_present : (z : Sizes) (held : List Node) (x : CertRef) (ps xs : List CertRef) → IsPresent z held x → IsWayBack z held x ps → IsOrderBack z held x ps xs
    → (a : CertRef) → Contains xs a → IsPresent z held a
order_back_present z held x [] xs here way h a t = let k = h.sound a t in walk_present z held k.0 x a here k.1
order_back_present z held x (p ∷ ps) xs here way (front, part, before, lists, e) a t =
    ⊎_elim (order_back_present z held p ps front way.0.earlier.anchor.present way.1 before a)
    (λ (late : Contains part a). let k = (lists.sound a late).0 in walk_present z held k.0 x a here k.1)
    (Contains-append_cases front part a (subst (λ (zs : List CertRef). Contains zs a) e t))

pub order_present : (z : Sizes) (held : List Node) (back xs : List CertRef) → IsCommittedBack z held back → IsOrder z held back xs → (a : CertRef) → Contains xs a → IsPresent z held a
order_present z held [] xs settled h a t = absurd (none_in_nil a (subst (λ (zs : List CertRef). Contains zs a) h t))
order_present z held (x ∷ ps) xs settled h a t = order_back_present z held x ps xs settled.0.voted.anchor.present settled.1 h a t
