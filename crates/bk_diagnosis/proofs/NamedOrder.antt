-- Certificates by place and id, in their order.
use Rattle.std.proofs.Common.{◌≡◌, ◌&&◌, ℕ, Bool, true, List, refl, sym, ap, ◌∙◌}
use Rattle.std.specs.Cmp.{IsTotalOrder, IsEquivalence, decided}
use Rattle.std.specs.Ordering.{eq_by_cmp, is_eq, ordering_then}
use Rattle.std.specs.Str.{bytes_eq}
use Rattle.std.specs.Cmp.Lexicographic.{texts_ties}
use Rattle.std.specs.declared.cmp.Ordering.{Ordering}
use Rattle.std.specs.declared.cmp.Ordering.TheVariants.{Less, Equal, Greater}
use Rattle.std.proofs.lemmas.Bool.{and_parts, and_from}
use Rattle.std.proofs.lemmas.Cmp.{then_total, on_total, nat_list_cmp_total}
use Rattle.std.proofs.lemmas.Slice.Eq.{bytes_eq-Decides}
use Rattle.bk_cert.specs.Place.{place_cmp}
use Rattle.bk_cert.specs.declared.place.CertRef.{CertRef}
use Rattle.bk_cert.proofs.Refs.{ref_total, ref_ties, same_place}
use Rattle.std.proofs.lemmas.Bool.{eqb-true, eq-eqb}
use Rattle.bk_evidence.specs.Collisions.{id_cmp}
use Rattle.bk_diagnosis.specs.private.Twins.{is_twin, named_cmp}
use Rattle.bk_diagnosis.specs.declared.twins.Named.{Named}

abbrev pub named_with : CertRef → List ℕ → Named
named_with place id = record { place = place; id = id }

pub same_named : (a b : Named) → a.place ≡ b.place → a.id ≡ b.id → a ≡ b
same_named a b p q = λ i. named_with (p i) (q i)

-- both are the same
abbrev pub named_eq : Named → Named → Bool
named_eq a b = is_twin a b && bytes_eq a.id b.id

pub named_total : IsTotalOrder named_cmp
named_total = then_total (on_total (λ (a : Named). a.place) ref_total) (on_total (λ (a : Named). a.id) nat_list_cmp_total)

both_eq : (o p : Ordering) → is_eq (ordering_then o p) ≡ (is_eq o && is_eq p)
both_eq Less p = refl
both_eq Equal p = refl
both_eq Greater p = refl

pub named_ties : (a b : Named) → named_eq a b ≡ eq_by_cmp named_cmp a b
named_ties a b =
    (λ i. ref_ties a.place b.place i && texts_ties a.id b.id i) ∙ sym (both_eq (place_cmp a.place b.place) (id_cmp a.id b.id))

-- a test of two places
pub twin_place : (a b : Named) → is_twin a b ≡ true → a.place ≡ b.place
twin_place a b e = let p = and_parts _ _ e in same_place a.place b.place (eqb-true _ _ p.0) (eqb-true _ _ p.1)

pub place_twin : (a b : Named) → a.place ≡ b.place → is_twin a b ≡ true
place_twin a b e = and_from _ _ (eq-eqb _ _ (ap (λ (q : CertRef). q.round) e)) (eq-eqb _ _ (ap (λ (q : CertRef). q.author) e))

pub named_same : (a b : Named) → named_eq a b ≡ true → a ≡ b
named_same a b e = let p = and_parts _ _ e in same_named a b (twin_place a b p.0) ((bytes_eq-Decides a.id b.id).0 p.1)

pub named_equivalence : IsEquivalence named_eq
named_equivalence = decided named_eq (λ a b. (
  named_same a b,
  λ e. and_from _ _ (place_twin a b (ap (λ (n : Named). n.place) e)) ((bytes_eq-Decides a.id b.id).1 (ap (λ (n : Named). n.id) e)),
))
