-- A certificate that breaks no local rule.
use Rattle.std.proofs.Common.{◌≡◌, ℕ, ◌<◌, ◌≤◌, ◌⊎◌, inl, inr, List, [], ◌∷◌, length, IsTrue, eqb, refl, sym, ◌∙◌, subst, ⊎_elim, arith}
use Rattle.std.specs.List.{AllByRecursion}
use Rattle.std.specs.List.Sorted.{IsStrictlySortedBy}
use Rattle.std.specs.Ordering.{nat_cmp}
use Rattle.std.specs.Cmp.Lexicographic.{slice_cmp}
use Rattle.std.specs.declared.cmp.Ordering.{Ordering}
use Rattle.std.specs.declared.cmp.Ordering.TheVariants.{Less, Equal, Greater}
use Rattle.std.proofs.lemmas.Bool.{cases_lt, eq-eqb, cond-true, lt-ltb}
use Rattle.bk_cert.specs.Values.{HeaderValue}
use Rattle.bk_committee.specs.Payload.{CommitteeValue, IsCommittee, sizes_of}
use Rattle.bk_cert.specs.Node.{Node}
use Rattle.bk_certcheck.specs.Rules.{wrong_parents}
use Rattle.bk_certcheck.specs.declared.rule.Rule.TheVariants as rule
use Rattle.bk_certcheck.specs.Verdicts.{IsGood}
use Rattle.bk_rounds.specs.Admission.{IsFit}

less_stable : (o : Ordering) → ¬ ¬ (o ≡ Less) → o ≡ Less
less_stable Less h = refl
less_stable Equal h = absurd (h (λ e. cc))
less_stable Greater h = absurd (h (λ e. cc))

all_stable : {X : Type 0} (P : X → Type 0) → ((x : X) → ¬ ¬ (P x) → P x) → (xs : List X) → ¬ ¬ (AllByRecursion P xs) → AllByRecursion P xs
all_stable {X} P one [] h = tt
all_stable {X} P one (x ∷ xs) h = (one x (λ n. h (λ a. n a.0)), all_stable P one xs (λ n. h (λ a. n a.1)))

-- what is not unsorted is sorted
pub sorted_stable : {K : Type 0} (c : K → K → Ordering) (ks : List K) → ¬ ¬ (IsStrictlySortedBy c ks) → IsStrictlySortedBy c ks
unfolding IsStrictlySortedBy
sorted_stable {K} c [] h = tt
sorted_stable {K} c (k ∷ ks) h = (
  all_stable (λ (y : K). c k y ≡ Less) (λ y. less_stable (c k y)) ks (λ n. h (λ a. n a.0)),
  sorted_stable c ks (λ n. h (λ a. n a.1)),
)

no_length : {X : Type 0} (xs : List X) → length xs ≤ 0 → xs ≡ []
no_length [] h = refl
no_length (x ∷ xs) h = absurd (omega arith)

first_has_none : (k : CommitteeValue) (h : HeaderValue) → ¬ (IsTrue (wrong_parents k h)) → h.round ≡ 1 → h.parents ≡ []
first_has_none k h fine e = no_length h.parents (⊎_elim
    (λ some. absurd (fine (cond-true (eqb h.round 1) _ _ (eq-eqb h.round 1 e) ∙ lt-ltb 0 (length h.parents) some)))
    (λ none. none) (cases_lt 0 (length h.parents)))

from_one : (h : HeaderValue) → ¬ ((h.round ≡ 0) ⊎ (1000000 < h.round)) → 1 ≤ h.round
from_one h fine = ⊎_elim (λ some. some) (λ none. absurd (fine (inl (omega arith)))) (cases_lt 0 h.round)

pub good_fits : (k : CommitteeValue) (bytes : List ℕ) (c : Node) → IsCommittee k → IsGood k bytes c → IsFit (sizes_of k) c
good_fits k bytes c committee good = let h : HeaderValue = good.cert.header in subst (IsFit (sizes_of k)) (sym good.is) (record {
  member = ⊎_elim (λ lt. let e : length k.weights ≡ length k.keys = committee.weighted in omega arith) (λ ge. absurd (good.breaks_none rule.Author ge)) (cases_lt h.author (length k.keys));
  from_one = from_one h (good.breaks_none rule.Round);
  to_last = ⊎_elim (λ lt. absurd (good.breaks_none rule.Round (inr lt))) (λ ge. ge) (cases_lt 1000000 h.round);
  ascending = sorted_stable (slice_cmp nat_cmp) h.parents (good.breaks_none rule.ParentOrder);
  first = first_has_none k h (good.breaks_none rule.Parents);
})
