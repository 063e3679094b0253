-- Of two that clash the later waits for the earlier.
use Rattle.std.proofs.Common.{◌≡◌, ◌⊎◌, inl, inr, ⊎_elim, ℕ, zero, suc, ◌+◌, ◌-◌, ◌<◌, ◌≤◌, ◌&&◌, Bool, true, false, refl, sym, ap, ◌∙◌, arith}
use mathlib.Core.Logic.{dite}
use native.Mathlib.Decide.{ℕ_discrete}
use Rattle.std.proofs.lemmas.Bool.{and_parts, and_from, false_from_ne_true, both_ways}
use Rattle.bk_conflicts.specs.Conflicts.{IsNearest, Waits, directly, through}

-- one wait after another
pub waits_after : (c : ℕ → ℕ → ℕ → Bool) (p r q : ℕ) → Waits c p r → Waits c r q → Waits c p q
waits_after c p _ _ w (directly r q e) = through p r q w e
waits_after c p _ _ w (through r s q v e) = through p s q (waits_after c p r s w v) e

-- some number from lo on, below lo + n, passes the test, or none does
pub some_or_none : (f : ℕ → Bool) (lo n : ℕ) → ((m : ℕ) × (lo ≤ m) × (m < lo + n) × (f m ≡ true)) ⊎ ((m : ℕ) → lo ≤ m → m < lo + n → f m ≡ false)
some_or_none f lo zero = inr (λ m l h. absurd (omega arith))
some_or_none f lo (suc n) = ⊎_elim
    (λ s. inl (s.0, s.1, omega arith, s.3))
    (λ none. at (f (lo + n)) refl none)
    (some_or_none f lo n)
  where
    at : (b : Bool) → f (lo + n) ≡ b → ((m : ℕ) → lo ≤ m → m < lo + n → f m ≡ false) → ((m : ℕ) × (lo ≤ m) × (m < lo + suc n) × (f m ≡ true)) ⊎ ((m : ℕ) → lo ≤ m → m < lo + suc n → f m ≡ false)
    at true e none = inl (lo + n, omega arith, omega arith, e)
    at false e none = inr (λ m l h. dite (ℕ_discrete m (lo + n)) (λ is. ap f is ∙ e) (λ other. none m l (omega arith)))

-- by the distance: where a place between clashes with both, the wait goes through it
waits_within : (c : ℕ → ℕ → ℕ → Bool) (a d p q : ℕ) → p < q → q ≤ p + d → c a p q ≡ true → Waits c p q
waits_within c a zero p q l h e = absurd (omega arith)
waits_within c a (suc d) p q l h e = ⊎_elim
    (λ s. let both = and_parts (c a p s.0) (c a s.0 q) s.3 in
    waits_after c p s.0 q (waits_within c a d p s.0 (omega arith) (omega arith) both.0) (waits_within c a d s.0 q (omega arith) (omega arith) both.1))
    (λ none. directly p q (a, record { earlier = l; here = e; between = λ m low high first. false_from_ne_true (c a m q) (λ second. both_ways _ (none m low (omega arith)) (and_from (c a p m) (c a m q) first second)) }))
    (some_or_none (λ m. c a p m && c a m q) (suc p) (q - suc p))

-- an earlier place that clashes with a later one is waited for
pub cover : (c : ℕ → ℕ → ℕ → Bool) (p q : ℕ) → p < q → (a : ℕ) × (c a p q ≡ true) → Waits c p q
cover c p q l e = waits_within c e.0 (q - p) p q l (omega arith) e.1

-- the same edges by other names of accounts
pub nearest_as : (c d : ℕ → ℕ → Bool) (p q : ℕ) → ((m n : ℕ) → c m n ≡ d m n) → IsNearest c p q → IsNearest d p q
nearest_as c d p q e n = record {
  earlier = n.earlier;
  here = sym (e p q) ∙ n.here;
  between = λ m low high first. sym (e m q) ∙ n.between m low high (e p m ∙ first);
}
