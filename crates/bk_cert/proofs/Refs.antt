-- Places in their order.
use Rattle.std.proofs.Common.{◌≡◌, ℕ, ◌<◌, ◌==◌, ◌&&◌, true, List, [], ◌∷◌, refl, sym, ap, ◌∙◌, inl, inr, arith}
use Rattle.std.specs.List.Sorted.{IsStrictlySortedBy}
use Rattle.std.specs.Cmp.{IsTotalOrder, IsEquivalence, decided}
use Rattle.std.proofs.lemmas.Map.Lookups.{exact_pairs, exact_unsigned}
use Rattle.std.proofs.lemmas.Bool.{false≢true, and_parts, and_from, eqb-true, eq-eqb}
use Rattle.std.specs.Ordering.{nat_cmp, ordering_then, is_eq, eq_by_cmp}
use Rattle.std.specs.declared.cmp.Ordering.{Ordering}
use Rattle.std.specs.declared.cmp.Ordering.TheVariants.{Less, Equal, Greater}
use Rattle.std.proofs.lemmas.Bool.Decides.{nat_tests}
use Rattle.std.proofs.lemmas.Cmp.{nat_cmp_total, then_total, on_total}
use Rattle.std.proofs.lemmas.List.Elements.{All-from_recursion, All-contains}
use Rattle.bk_cert.specs.Place.{IsBefore, IsListed, place_cmp}
use Rattle.bk_cert.specs.declared.place.CertRef.{CertRef}

-- places are equal where their parts are
pub same_place : (a b : CertRef) → a.round ≡ b.round → a.author ≡ b.author → a ≡ b
same_place a b e f = ap (λ (p : ℕ × ℕ). let q : CertRef = record { round = p.0; author = p.1 } in q) (let g : (let q : ℕ × ℕ = (a.round, a.author) in q) ≡ (b.round, b.author) = cc in g)

data Order3 (o : Ordering) : Type 0 where
  less : o ≡ Less → Order3 o
  equal : o ≡ Equal → Order3 o
  greater : o ≡ Greater → Order3 o

cases_Ordering : (o : Ordering) → Order3 o
cases_Ordering Less = less refl
cases_Ordering Equal = equal refl
cases_Ordering Greater = greater refl

nat_less : (m n : ℕ) → nat_cmp m n ≡ Less → m < n
nat_less m n h = grind (arith, nat_tests)

nat_equal : (m n : ℕ) → nat_cmp m n ≡ Equal → m ≡ n
nat_equal m n h = grind (arith, nat_tests)

never : (o : Ordering) → ordering_then Greater o ≡ Less → ⊥
never o h = cc

pub before_from_less : (a b : CertRef) → place_cmp a b ≡ Less → IsBefore a b
before_from_less a b h = by_round (cases_Ordering (nat_cmp a.round b.round))
  where
    by_round : Order3 (nat_cmp a.round b.round) → IsBefore a b
    by_round (less q) = inl (nat_less a.round b.round q)
    by_round (equal q) = inr (nat_equal a.round b.round q, nat_less a.author b.author (sym (ap (λ o. ordering_then o (nat_cmp a.author b.author)) q) ∙ h))
    by_round (greater q) = absurd (never (nat_cmp a.author b.author) (sym (ap (λ o. ordering_then o (nat_cmp a.author b.author)) q) ∙ h))

pub listed_from_sorted : (xs : List CertRef) → IsStrictlySortedBy place_cmp xs → IsListed xs
unfolding IsStrictlySortedBy
listed_from_sorted [] h = tt
listed_from_sorted (x ∷ xs) h = (
  (λ b t. before_from_less x b (All-contains (λ y. place_cmp x y ≡ Less) xs b (All-from_recursion _ xs h.0) t)),
  listed_from_sorted xs h.1,
)

pub ref_total : IsTotalOrder place_cmp
ref_total = then_total (on_total (λ (a : CertRef). a.round) nat_cmp_total) (on_total (λ (a : CertRef). a.author) nat_cmp_total)

pub ref_ties : (a b : CertRef) → ((a.round == b.round) && (a.author == b.author)) ≡ eq_by_cmp place_cmp a b
ref_ties a b = grind (arith, nat_tests)

pub ref_equivalence : IsEquivalence (λ (a b : CertRef). (a.round == b.round) && (a.author == b.author))
ref_equivalence = decided (λ (a b : CertRef). (a.round == b.round) && (a.author == b.author)) (λ a b. (
  (λ e. let p = and_parts _ _ e in same_place a b (eqb-true _ _ p.0) (eqb-true _ _ p.1)),
  (λ e. and_from _ _ (eq-eqb _ _ (ap (λ (q : CertRef). q.round) e)) (eq-eqb _ _ (ap (λ (q : CertRef). q.author) e))),
))

nat_same : (n : ℕ) → nat_cmp n n ≡ Equal
nat_same n = grind (arith, nat_tests)

pub ref_same : (a : CertRef) → place_cmp a a ≡ Equal
ref_same a = ap (λ o. ordering_then o (nat_cmp a.author a.author)) (nat_same a.round) ∙ nat_same a.author

pub equal_from_test : (o : Ordering) → is_eq o ≡ true → o ≡ Equal
equal_from_test Less h = absurd (false≢true h)
equal_from_test Equal h = refl
equal_from_test Greater h = absurd (false≢true h)

pub exact_ref : (a b : CertRef) → place_cmp a b ≡ Equal → a ≡ b
exact_ref a b h = ap (λ (p : ℕ × ℕ). let q : CertRef = record { round = p.0; author = p.1 } in q)
    (exact_pairs nat_cmp nat_cmp exact_unsigned exact_unsigned (a.round, a.author) (b.round, b.author) h)
