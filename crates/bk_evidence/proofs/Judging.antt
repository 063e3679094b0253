-- What an offer answers, and what is known of the places.
use Rattle.std.proofs.Common.{◌≡◌, ◌≢◌, ◌⊎◌, ℕ, Bool, List, [], Option, Some, None, refl, sym, ap, subst, ◌∙◌, inl, inr, ⊎_elim}
use Rattle.std.specs.Prelude.{MatchOption, IsTrue, ◌↔◌, option_map}
use Rattle.std.specs.Map.{lookup}
use Rattle.std.specs.Ordering.{is_eq}
use Rattle.std.specs.Str.{bytes_eq}
use Rattle.std.proofs.lemmas.Slice.Eq.{bytes_eq-Decides}
use Rattle.bk_cert.specs.Node.{Node, node_with}
use Rattle.bk_cert.specs.Equality.{header_eq}
use Rattle.bk_cert.proofs.Equality.{header_decided}
use Rattle.bk_cert.proofs.Lists.{none_in_nil}
use Rattle.bk_cert.proofs.Refs.{before_from_less}
use Rattle.bk_cert.specs.Place.{place_of, place_cmp}
use Rattle.bk_cert.specs.declared.place.CertRef.{CertRef}
use Rattle.bk_evidence.specs.Collisions.{id_cmp}
use Rattle.bk_evidence.specs.Twins.{IsIdAt, IsEvidence, NoTwins}
use Rattle.bk_evidence.specs.Held.{IsNewId, IsOffer}
use Rattle.bk_evidence.specs.declared.places.LeastIds.{LeastIds}
use Rattle.bk_evidence.specs.declared.places.Places.{Places}
use Rattle.bk_evidence.specs.private.Answers.{offer_of}
use Rattle.bk_evidence.specs.private.Least.{IsLeastBy}
use Rattle.bk_evidence.specs.private.Places.{ids_with, second_in, AreLeastIds, id_at, AreIdsOf, first_at, second_at, ids_at, evidence_with, evidence_at, evidence_in, HasTwins, ArePlaces, IsEmptyPlaces}
use Rattle.bk_evidence.proofs.Lesser.{less_from, same_or_not}
use Rattle.bk_evidence.proofs.Colliding.{id_order}
use Rattle.bk_evidence.proofs.Payloads.{decided_same}
use Rattle.bk_evidence.proofs.Placing.{place_order, Others, twins_from, no_twins_from, no_twins_at}

-- ---- certificates that are the same or not

pub same_node : (c d : Node) → c.id ≡ d.id → c.header ≡ d.header → c ≡ d
same_node c d p q = λ i. node_with (p i) (q i)

-- under one id certificates are the same, or their headers differ
pub same_cert : (c d : Node) → c.id ≡ d.id → (c ≡ d) ⊎ (c ≢ d)
same_cert c d e = by (decided_same c.header d.header (header_eq c.header d.header) (header_decided c.header d.header))
  where
    by : (c.header ≡ d.header) ⊎ (c.header ≢ d.header) → (c ≡ d) ⊎ (c ≢ d)
    by (inl p) = inl (same_node c d e p)
    by (inr apart) = inr (λ same. apart (ap (λ (x : Node). x.header) same))

pub same_tested : (c d : Node) (r : Bool) → c.id ≡ d.id → r ≡ header_eq c.header d.header → IsTrue r ↔ (c ≡ d)
same_tested c d r e is = (
  λ t. same_node c d e ((header_decided c.header d.header).0 (sym is ∙ t)),
  λ p. is ∙ (header_decided c.header d.header).1 (ap (λ (x : Node). x.header) p),
)

-- ---- offers

-- the answer to an offer of a new id
pub answered : (held : List Node) (c : Node) (least : Option (List ℕ)) → IsNewId held c.id → IsLeastBy id_cmp (IsIdAt held (place_of c)) least → IsOffer held c (offer_of least)
answered held c None new h = (new, h)
answered held c (Some id) new h = (new, h.0, h.1)

-- ---- places

pub places_none : (p : Places) → IsEmptyPlaces p → ArePlaces [] p
places_none p empty = record {
  ids = λ a. subst (λ f. AreIdsOf [] a f (second_at p a)) (sym (empty.firsts a))
      (ap (λ (es : List (CertRef × List ℕ)). lookup (λ k. is_eq (place_cmp a k)) es) empty.seconds, λ id h. none_in_nil h.cert h.is_held);
  twins = subst (IsLeastBy place_cmp (HasTwins [])) (sym empty.twins) (λ a h. none_in_nil h.2.one.cert h.2.one.is_held);
}

-- the least ids of a place by its index and its second id
pub ids_known : (held : List Node) (a : CertRef) (o : Option ℕ) (s : Option (List ℕ)) → AreIdsOf held a o s → AreLeastIds (IsIdAt held a) (option_map (λ k. ids_with (id_at held k) s) o)
ids_known held a None s h = h.1
ids_known held a (Some k) s h = h.1

-- ---- evidence

no_twins_told : (held : List Node) → ((a : CertRef) → HasTwins held a → ⊥) → NoTwins held
no_twins_told held none c d a b e = ⊎_elim (λ (p : c.id ≡ d.id). p)
    (λ (apart : c.id ≢ d.id). absurd (none (place_of d) (
      c.id,
      d.id,
      record {
        one = record { cert = c; is_held = a; place_is = e; id_is = refl };
        two = record { cert = d; is_held = b; place_is = refl; id_is = refl };
        apart = apart;
      },
    )))
    (decided_same c.id d.id (bytes_eq c.id d.id) (bytes_eq-Decides c.id d.id))

evidence_is : (held : List Node) (a : CertRef) (l : LeastIds) (s : List ℕ) → IsLeastBy place_cmp (HasTwins held) (Some a) → AreLeastIds (IsIdAt held a) (Some l)
    → second_in l ≡ Some s → IsEvidence held (evidence_with a l.least s)
evidence_is held a l s least ids e =
    let second : IsLeastBy id_cmp (Others (IsIdAt held a) l.least) (Some s) = subst (IsLeastBy id_cmp (Others (IsIdAt held a) l.least)) e ids.1 in
    let twins = twins_from held a l s e ids in
    record {
      twins = twins;
      in_order = less_from id_order l.least s (ids.0.1 s twins.two) twins.apart;
      least_place = λ b p q t. ⊎_elim (λ (same : a ≡ b). inl same) (λ (other : a ≢ b). inr (before_from_less a b (less_from place_order a b (least.1 b (p, q, t)) other))) (same_or_not place_order a b);
      least_ids = λ id h. ⊎_elim (λ (same : id ≡ l.least). inl same) (λ (other : id ≢ l.least). inr (second.1 id (h, other))) (same_or_not id_order id l.least);
    }

-- what is kept of the places is the evidence, or there are no twins
pub evidence_told : (held : List Node) (p : Places) → ArePlaces held p → MatchOption (evidence_in held p p.twins) (NoTwins held) (IsEvidence held)
evidence_told held p places = by p.twins places.twins
  where
    at_second : (a : CertRef) (l : LeastIds) → IsLeastBy place_cmp (HasTwins held) (Some a) → AreLeastIds (IsIdAt held a) (Some l) → (o : Option (List ℕ)) → second_in l ≡ o
        → MatchOption (option_map (evidence_with a l.least) o) (NoTwins held) (IsEvidence held)
    at_second a l least ids None e = absurd (no_twins_from held a l e ids least.0)
    at_second a l least ids (Some s) e = evidence_is held a l s least ids e

    at_place : (a : CertRef) → IsLeastBy place_cmp (HasTwins held) (Some a) → (o : Option LeastIds) → AreLeastIds (IsIdAt held a) o → MatchOption (evidence_at a o) (NoTwins held) (IsEvidence held)
    at_place a least None ids = absurd (no_twins_at held a ids least.0)
    at_place a least (Some l) ids = at_second a l least ids (second_in l) refl

    by : (t : Option CertRef) → IsLeastBy place_cmp (HasTwins held) t → MatchOption (evidence_in held p t) (NoTwins held) (IsEvidence held)
    by None none = no_twins_told held none
    by (Some a) least = at_place a least (ids_at held p a) (ids_known held a (first_at p a) (second_at p a) (places.ids a))
