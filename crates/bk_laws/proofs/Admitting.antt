-- Whether a certificate is admitted, and a place is one of an admitted or of a waiting one.
use Rattle.std.proofs.Common.{◌≡◌, ℕ, zero, suc, ◌+◌, ◌<◌, List, map, ap, subst, inl, inr, ⊎_elim}
use Rattle.std.specs.List.{Contains}
use Rattle.bk_committee.specs.Sizes.{Sizes, Weigh, quorum}
use Rattle.bk_cert.specs.Node.{Node}
use Rattle.bk_cert.specs.Place.{place_of}
use Rattle.bk_cert.specs.declared.place.CertRef.{CertRef}
use Rattle.bk_rounds.specs.Admission.{IsAdmittedIn, IsAdmitted, IsPresent, StandsAt, WaitsAt}
use Rattle.bk_rounds.specs.Links.{Links}
use Rattle.bk_cert.proofs.Refs.{same_place}
use Rattle.bk_rounds.proofs.Admitted.{IsNamed, IsParent, admitted_held}
use Rattle.bk_cert.proofs.Lists.{in_map}
use Rattle.bk_evidence.proofs.Colliding.{id_order}
use Rattle.bk_evidence.proofs.Lesser.{same_or_not}
use Rattle.bk_laws.proofs.Deciding.{Decided, AnyIn, decided_both, decided_three, decided_if, decided_not, decided_as, decided_among, decided_each, decided_contains, decided_below, same_number}
use Rattle.bk_laws.proofs.Weights.{decided_weigh}

-- the author of a certificate
author_of : Node → ℕ
author_of c = c.header.author

pub decided_place : (a b : CertRef) → Decided (a ≡ b)
decided_place a b = ⊎_elim
    (λ (e : a.round ≡ b.round). ⊎_elim
    (λ (f : a.author ≡ b.author). inl (same_place a b e f))
    (λ n. inr (λ (p : a ≡ b). n (ap (λ (q : CertRef). q.author) p)))
    (same_number a.author b.author))
    (λ n. inr (λ (p : a ≡ b). n (ap (λ (q : CertRef). q.round) p)))
    (same_number a.round b.round)

module _ (z : Sizes) (held : List Node) where
  module _ (r : ℕ) (d : (c : Node) → Contains held c → Decided (IsAdmittedIn z held r c)) where
    named : (p : List ℕ) → Decided (IsNamed z held r p)
    named p = decided_as (AnyIn (λ (c : Node). IsAdmittedIn z held r c × (c.id ≡ p)) held) (IsNamed z held r p)
        (λ h. (h.0, h.2.0, h.2.1))
        (λ h. (h.0, admitted_held z held r h.0 h.1, (h.1, h.2)))
        (decided_among (λ (c : Node). IsAdmittedIn z held r c × (c.id ≡ p)) held
        (λ c t. decided_both (IsAdmittedIn z held r c) (c.id ≡ p) (d c t) (same_or_not id_order c.id p)))

    parent : (c : Node) (x : ℕ) → Decided (IsParent z held r c x)
    parent c x = decided_as (AnyIn (λ (e : Node). IsAdmittedIn z held r e × (e.header.author ≡ x) × Contains c.header.parents e.id) held) (IsParent z held r c x)
        (λ h. (h.0, h.2.0, h.2.1, h.2.2))
        (λ h. (h.0, admitted_held z held r h.0 h.1, (h.1, h.2, h.3)))
        (decided_among (λ (e : Node). IsAdmittedIn z held r e × (e.header.author ≡ x) × Contains c.header.parents e.id) held
        (λ e t. decided_three (IsAdmittedIn z held r e) (e.header.author ≡ x) (Contains c.header.parents e.id) (d e t) (same_number e.header.author x) (decided_contains (same_or_not id_order) c.header.parents e.id)))

    parent_author : (c : Node) (x : ℕ) → IsParent z held r c x → Contains (map author_of held) x
    unfolding author_of
    parent_author c x h = subst (Contains (map author_of held)) h.2 (in_map author_of held h.0 (admitted_held z held r h.0 h.1))

    next : (c : Node) → Contains held c → Decided (IsAdmittedIn z held (suc r) c)
    unfolding IsAdmittedIn
    next c t = decided_as
        ((c.header.round ≡ r + 1) × (0 < r → (p : List ℕ) → Contains c.header.parents p → IsNamed z held r p) × (0 < r → Weigh z (IsParent z held r c) (quorum z)))
        (IsAdmittedIn z held (suc r) c)
        (λ h. (t, h.0, h.1, h.2))
        (λ h. (h.1, h.2, h.3))
        (decided_three
        (c.header.round ≡ r + 1)
        (0 < r → (p : List ℕ) → Contains c.header.parents p → IsNamed z held r p)
        (0 < r → Weigh z (IsParent z held r c) (quorum z))
        (same_number c.header.round (r + 1))
        (decided_if (0 < r) ((p : List ℕ) → Contains c.header.parents p → IsNamed z held r p) (decided_below 0 r) (decided_each (IsNamed z held r) named c.header.parents))
        (decided_if (0 < r) (Weigh z (IsParent z held r c) (quorum z)) (decided_below 0 r)
        (decided_weigh z (IsParent z held r c) (map author_of held) (quorum z) (parent c) (parent_author c))))

  pub decided_admitted : (r : ℕ) (c : Node) → Contains held c → Decided (IsAdmittedIn z held r c)
  unfolding IsAdmittedIn
  decided_admitted zero c t = inr (λ h. h)
  decided_admitted (suc r) c t = next r (decided_admitted r) c t

  pub decided_stands : (a : CertRef) (c : Node) → Contains held c → Decided (StandsAt z held a c)
  decided_stands a c t = decided_as (IsAdmitted z held c × (place_of c ≡ a)) (StandsAt z held a c)
      (λ h. record { admitted = h.0; place = h.1 })
      (λ h. (h.admitted, h.place))
      (decided_both (IsAdmitted z held c) (place_of c ≡ a) (decided_admitted c.header.round c t) (decided_place (place_of c) a))

  stands_held : (a : CertRef) (c : Node) → StandsAt z held a c → Contains held c
  stands_held a c h = admitted_held z held c.header.round c h.admitted

  -- an admitted certificate is at one of the places of what is held
  pub present_place : (a : CertRef) → IsPresent z held a → Contains (map place_of held) a
  present_place a h = subst (Contains (map place_of held)) h.1.place (in_map place_of held h.0 (stands_held a h.0 h.1))

  pub decided_present : (a : CertRef) → Decided (IsPresent z held a)
  decided_present a = decided_as (AnyIn (StandsAt z held a) held) (IsPresent z held a)
      (λ h. (h.0, h.2))
      (λ h. (h.0, stands_held a h.0 h.1, h.1))
      (decided_among (StandsAt z held a) held (decided_stands a))

  -- and so is a waiting one
  pub waiting_place : (a : CertRef) → WaitsAt z held a → Contains (map place_of held) a
  waiting_place a h = subst (Contains (map place_of held)) h.2 (in_map place_of held h.0 h.1.is_held)

  pub decided_waiting : (a : CertRef) → Decided (WaitsAt z held a)
  decided_waiting a = decided_as (AnyIn (λ (c : Node). (IsAdmitted z held c → ⊥) × (place_of c ≡ a)) held) (WaitsAt z held a)
      (λ h. (h.0, record { is_held = h.1; not_admitted = h.2.0 }, h.2.1))
      (λ h. (h.0, h.1.is_held, (h.1.not_admitted, h.2)))
      (decided_among (λ (c : Node). (IsAdmitted z held c → ⊥) × (place_of c ≡ a)) held
      (λ c t. decided_both (IsAdmitted z held c → ⊥) (place_of c ≡ a) (decided_not (IsAdmitted z held c) (decided_admitted c.header.round c t)) (decided_place (place_of c) a)))

  -- a parent of a at b
  IsParentAt : CertRef → Node → Node → Type 0
  IsParentAt b c d = StandsAt z held b d × Contains c.header.parents d.id

  IsChildAt : CertRef → CertRef → Node → Type 0
  IsChildAt a b c = StandsAt z held a c × AnyIn (IsParentAt b c) held

  pub decided_links : (a b : CertRef) → Decided (Links z held a b)
  unfolding IsParentAt IsChildAt
  decided_links a b = decided_as (AnyIn (IsChildAt a b) held × (b.round + 1 ≡ a.round)) (Links z held a b)
      (λ h. record {
        child = h.0.0;
        parent = h.0.2.1.0;
        child_at = h.0.2.0;
        parent_at = h.0.2.1.2.0;
        names = h.0.2.1.2.1;
        before = h.1;
      })
      (λ h. ((h.child, stands_held a h.child h.child_at, (h.child_at, (h.parent, stands_held b h.parent h.parent_at, (h.parent_at, h.names)))), h.before))
      (decided_both (AnyIn (IsChildAt a b) held) (b.round + 1 ≡ a.round)
      (decided_among (IsChildAt a b) held (λ c t. decided_both (StandsAt z held a c) (AnyIn (IsParentAt b c) held) (decided_stands a c t)
      (decided_among (IsParentAt b c) held (λ d u. decided_both (StandsAt z held b d) (Contains c.header.parents d.id) (decided_stands b d u) (decided_contains (same_or_not id_order) c.header.parents d.id)))))
      (same_number (b.round + 1) a.round))
