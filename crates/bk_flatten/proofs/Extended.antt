-- An anchor's part goes on where the order of its prior ends.
use Rattle.std.proofs.Common.{◌≡◌, ℕ, zero, suc, ◌↔◌, ◌⊎◌, inl, inr, List, [], ◌∷◌, ◌++◌, refl, sym, ap, subst, ⊎_elim}
use Rattle.std.specs.List.{Contains}
use Rattle.std.proofs.lemmas.Bool.{cases_eq}
use Rattle.std.proofs.lemmas.List.Elements.{Contains-append_left, Contains-append_right, Contains-append_cases}
use Rattle.bk_committee.specs.Sizes.{Sizes}
use Rattle.bk_cert.specs.Node.{Node}
use Rattle.bk_cert.proofs.Listed.{same_listing}
use Rattle.bk_cert.proofs.Lists.{none_in_nil, contains_cases, contains_first, contains_later}
use Rattle.bk_cert.proofs.Refs.{same_place}
use Rattle.bk_cert.specs.Place.{Lists}
use Rattle.bk_cert.specs.declared.place.CertRef.{CertRef}
use Rattle.bk_commit.specs.Ordering.{Leads, InHistory, IsWayBack}
use Rattle.bk_commit.proofs.Grown.{one_way_back}
use Rattle.bk_commit.proofs.Levels.{walk_snoc}
use Rattle.bk_flatten.specs.private.Part.{IsClosed}
use Rattle.bk_flatten.specs.Order.{IsOrderBack, IsOrder, IsKept}

not_first : (x : CertRef) (xs : List CertRef) (c : CertRef) → Contains xs c ⊎ (Contains xs c → ⊥) → (x ≡ c → ⊥) → Contains (x ∷ xs) c ⊎ (Contains (x ∷ xs) c → ⊥)
not_first x xs c d n = ⊎_elim (λ h. inl (contains_later x xs c h)) (λ h. inr (λ k. ⊎_elim n h (contains_cases x xs c k))) d

-- a place is listed or not
listed_or_not : (xs : List CertRef) (c : CertRef) → Contains xs c ⊎ (Contains xs c → ⊥)
listed_or_not [] c = inr (none_in_nil c)
listed_or_not (x ∷ xs) c = ⊎_elim
    (λ e. ⊎_elim (λ f. inl (subst (Contains (x ∷ xs)) (same_place x c e f) (contains_first x xs)))
    (λ f. not_first x xs c (listed_or_not xs c) (λ h. f (ap (λ (p : CertRef). p.author) h)))
    (cases_eq x.author c.author))
    (λ e. not_first x xs c (listed_or_not xs c) (λ h. e (ap (λ (p : CertRef). p.round) h)))
    (cases_eq x.round c.round)

walk_on : (z : Sizes) (held : List Node) (n m : ℕ) (a b c : CertRef) → Leads z held n a b → Leads z held m b c → InHistory z held a c
walk_on z held zero m a b c w v = (m, subst (λ (q : CertRef). Leads z held m q c) (sym w) v)
walk_on z held (suc n) m a b c w v = let rest = walk_on z held n m w.0 b c w.2 v in (suc rest.0, (w.0, w.1, rest.1))

-- the order up to an anchor lists its history
pub order_has_history : (z : Sizes) (held : List Node) (a : CertRef) (ps xs : List CertRef) → IsWayBack z held a ps → IsOrderBack z held a ps xs
    → (c : CertRef) → Contains xs c ↔ InHistory z held a c
order_has_history z held a [] xs way h c = (h.sound c, h.complete c)
order_has_history z held a (p ∷ ps) xs way (front, part, before, lists, e) c =
    let front_has = order_has_history z held p ps front way.1 before c in
    let reached = way.0.earlier.reached in (
      (λ h. ⊎_elim
          (λ there. let w = front_has.0 there in walk_on z held reached.0 w.0 a p c reached.1 w.1)
          (λ there. (lists.sound c there).0)
          (Contains-append_cases front part c (subst (λ ys. Contains ys c) e h))),
      (λ h. subst (λ ys. Contains ys c) (sym e) (⊎_elim
          (λ there. Contains-append_left front part c there)
          (λ not. Contains-append_right front part c (lists.complete c (h, λ k. not (front_has.1 k))))
          (listed_or_not front c))),
    )

goes_on : (z : Sizes) (held : List Node) (a : CertRef) (kept part qs : List CertRef) → IsWayBack z held a qs → IsOrder z held qs kept
    → Lists part (λ b. InHistory z held a b × (Contains kept b → ⊥)) → IsOrder z held (a ∷ qs) (kept ++ part)
goes_on z held a kept part [] way order lists =
    subst (λ zs. Lists (zs ++ part) (InHistory z held a)) (sym order)
    (same_listing part _ _ (λ c h. h.0) (λ c h. (h, λ k. none_in_nil c (subst (λ ys. Contains ys c) order k))) lists)
goes_on z held a kept part (p ∷ ps) way order lists = (
  kept,
  part,
  order,
  same_listing part _ _
      (λ c h. (h.0, λ k. h.1 ((order_has_history z held p ps kept way.1 order c).1 k)))
      (λ c h. (h.0, λ k. h.1 ((order_has_history z held p ps kept way.1 order c).0 k)))
      lists,
  refl,
)

pub extended : (z : Sizes) (held : List Node) (a : CertRef) (kept part : List CertRef) → IsKept z held a kept
    → Lists part (λ b. InHistory z held a b × (Contains kept b → ⊥))
    → (ps : List CertRef) → IsWayBack z held a ps → IsOrder z held (a ∷ ps) (kept ++ part)
extended z held a kept part (qs, way, order) lists ps way' =
    let e : qs ≡ ps = one_way_back z held a qs ps way way' in
    subst (λ zs. IsOrder z held (a ∷ zs) (kept ++ part)) e (goes_on z held a kept part qs way order lists)

-- the parents of what is kept are kept
pub kept_closed : (z : Sizes) (held : List Node) (a : CertRef) (xs : List CertRef) → IsKept z held a xs → IsClosed z held xs
kept_closed z held a xs ([], way, order) b d t link = absurd (none_in_nil b (subst (λ (ys : List CertRef). Contains ys b) order t))
kept_closed z held a xs (p ∷ ps, way, order) b d t link =
    let (k, w) = (order_has_history z held p ps xs way.1 order b).0 t in
    (order_has_history z held p ps xs way.1 order d).1 (suc k, walk_snoc z held k p b d w link)
