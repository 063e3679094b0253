-- There is an order of committed anchors, and a list of what waits.
use Rattle.std.proofs.Common.{ℕ, zero, suc, List, [], ◌∷◌, ◌++◌, map, refl, subst}
use Rattle.std.specs.List.{Contains}
use Rattle.bk_committee.specs.Sizes.{Sizes}
use Rattle.bk_cert.specs.Node.{Node}
use Rattle.bk_cert.specs.Place.{place_of, Lists}
use Rattle.bk_cert.specs.declared.place.CertRef.{CertRef}
use Rattle.bk_rounds.specs.Admission.{WaitsAt}
use Rattle.bk_cert.proofs.Lists.{contains_first, contains_later}
use Rattle.bk_commit.specs.Ordering.{Leads, InHistory}
use Rattle.bk_commit.proofs.Grown.{walk_present}
use Rattle.bk_flatten.specs.Order.{IsOrder, IsOrderBack}
use Rattle.bk_laws.proofs.Admitting.{decided_waiting, present_place, waiting_place}
use Rattle.bk_laws.proofs.Anchors.{decided_history}
use Rattle.bk_laws.proofs.Deciding.{decided_both, decided_not}
use Rattle.bk_laws.proofs.Listings.{listing_exists}

module _ (z : Sizes) (held : List Node) where
  pub waiting_exist : (xs : List CertRef) × Lists xs (WaitsAt z held)
  waiting_exist = listing_exists (WaitsAt z held) (decided_waiting z held) (map place_of held) (waiting_place z held)

  -- a history has its own certificate and others that are held
  history_place : (a b : CertRef) → InHistory z held a b → Contains (a ∷ map place_of held) b
  history_place a b (n, w) = by n w
    where
      by : (n : ℕ) → Leads z held n a b → Contains (a ∷ map place_of held) b
      by zero e = subst (Contains (a ∷ map place_of held)) e (contains_first a (map place_of held))
      by (suc n) w = contains_later a (map place_of held) b (present_place z held b (walk_present z held n w.0 b (w.1.parent, w.1.parent_at) w.2))

  order_back_exists : (a : CertRef) (ps : List CertRef) → (xs : List CertRef) × IsOrderBack z held a ps xs
  order_back_exists a [] = listing_exists (InHistory z held a) (decided_history z held a) (a ∷ map place_of held) (history_place a)
  order_back_exists a (p ∷ ps) =
      let front = order_back_exists p ps in
      let part = listing_exists (λ (b : CertRef). InHistory z held a b × (InHistory z held p b → ⊥))
      (λ b. decided_both (InHistory z held a b) (InHistory z held p b → ⊥) (decided_history z held a b) (decided_not (InHistory z held p b) (decided_history z held p b)))
      (a ∷ map place_of held) (λ b h. history_place a b h.0) in
      (front.0 ++ part.0, (front.0, part.0, front.1, part.1, refl))

  pub order_exists : (back : List CertRef) → (xs : List CertRef) × IsOrder z held back xs
  order_exists [] = ([], refl)
  order_exists (a ∷ rest) = order_back_exists a rest
