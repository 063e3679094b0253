-- Walks over the places of a bundle: tests, local values, numbers of bundles.
use Rattle.std.proofs.Common.{◌≡◌, ◌≢◌, ◌⊎◌, inl, inr, ⊎_elim, ℕ, zero, suc, ◌+◌, ◌-◌, ◌*◌, ◌/◌, ◌<◌, ◌≤◌, ◌||◌, Bool, true, false, cond, refl, sym, ap, ◌∙◌, subst, arith}
use mathlib.Core.Logic.{dite}
use native.Mathlib.Decide.{ℕ_discrete}
use native.Mathlib.Nat.{mul-suc, suc-mul, mul_comm, mul-le-mul_left, le-div_iff_mul-le, div-lt_iff_lt-mul, lt-mul-div-succ}
use Rattle.std.proofs.lemmas.Bool.{both_ways, cases_Bool, cases_order, or_cases, or_left, or_right, cond-true, cond-false}
use Rattle.bk_conflicts.specs.Scene.{Scene, SeeSame, IsFolded}
use Rattle.bk_bundles.specs.Bundled.{any_of, bundles, locally}

-- ---- tests

pub any_some : (test : ℕ → Bool) (first n : ℕ) → any_of test first n ≡ true → (i : ℕ) × (i < n) × (test (first + i) ≡ true)
unfolding any_of
any_some test first zero e = absurd (both_ways _ refl e)
any_some test first (suc n) e = ⊎_elim
    (λ h. (n, omega arith, h))
    (λ h. let r = any_some test first n h in let l = r.1 in (r.0, omega arith, r.2))
    (or_cases (test (first + n)) (any_of test first n) e)

pub any_from : (test : ℕ → Bool) (first n i : ℕ) → i < n → test (first + i) ≡ true → any_of test first n ≡ true
unfolding any_of
any_from test first zero i l e = absurd (omega arith)
any_from test first (suc n) i l e = dite (ℕ_discrete i n)
    (λ is. or_left (test (first + n)) (any_of test first n) (ap (λ (k : ℕ). test (first + k)) (sym is) ∙ e))
    (λ other. or_right (test (first + n)) (any_of test first n) (any_from test first n i (omega arith) e))

-- ---- numbers of bundles

-- a bundle begins where the one before it ends, or later
pub after_bundle : (w a b : ℕ) → a < b → w * a + w ≤ w * b
after_bundle w a b l = let m : w * suc a ≤ w * b = mul-le-mul_left w l in let e = mul-suc w a in omega arith

-- no place is in two bundles
pub apart : (w a b i j : ℕ) → a ≢ b → i < w → j < w → w * a + i ≡ w * b + j → ⊥
apart w a b i j n l m e = ⊎_elim (λ is. n is) (λ o. ⊎_elim
    (λ less. let k = after_bundle w a b less in absurd (omega arith))
    (λ more. let k = after_bundle w b a more in absurd (omega arith)) o) (cases_order a b)

-- a bundle with a place is one of them
pub bundle_inside : (places w b : ℕ) → 0 < w → w * b < places → b < bundles places w
bundle_inside places w b some l =
    let a = suc-mul b w in let c = mul_comm w b in
    let e : suc b * w ≤ places + (w - 1) = omega arith in
    let k : suc b ≤ (places + (w - 1)) / w = (le-div_iff_mul-le some).1 e in omega arith

-- they have all places
pub bundles_cover : (places w : ℕ) → 0 < w → places ≤ w * bundles places w
bundles_cover places w some = at (bundles places w) (lt-mul-div-succ (places + (w - 1)) some)
  where
    at : (k : ℕ) → places + (w - 1) < w * (k + 1) → places ≤ w * k
    at k l = let z : k + 1 ≡ suc k = omega arith in
        let m : places + (w - 1) < w * suc k = subst (λ (j : ℕ). places + (w - 1) < w * j) z l in
        let e = mul-suc w k in omega arith

-- and are no more than the places
pub bundles_few : (places w : ℕ) → 0 < w → bundles places w ≤ places
bundles_few places w some =
    let a = suc-mul places w in let c = mul-le-mul_left places some in
    let d : places * 1 ≡ places = omega arith in
    let e : places + (w - 1) < suc places * w = omega arith in
    let k : (places + (w - 1)) / w < suc places = (div-lt_iff_lt-mul some).1 e in omega arith

-- ---- the fold along places that do not write

pub kept_along : (s : Scene) → IsFolded s → (first n x : ℕ) → ((i : ℕ) → i < n → s.writes (first + i) x ≡ true → ⊥) → s.fold (first + n) x ≡ s.fold first x
kept_along s h first zero x quiet = ap (λ (k : ℕ). s.fold k x) (let e : first + 0 ≡ first = omega arith in e)
kept_along s h first (suc n) x quiet = ap (λ (k : ℕ). s.fold k x) (let e : first + suc n ≡ suc (first + n) = omega arith in e)
    ∙ (h.kept (first + n) x (quiet n (omega arith)) ∙ kept_along s h first n x (λ i l. quiet i (omega arith)))

-- ---- local values

-- what the places from the first on see decides what they leave
pub locally_same : (s : Scene) → IsFolded s → (first w : ℕ) (D : ℕ → Type 0) → ((i x : ℕ) → i < w → s.declares (first + i) x ≡ true → D x)
    → (f g : ℕ → ℕ) → ((x : ℕ) → D x → f x ≡ g x) → (n : ℕ) → n ≤ w → (x : ℕ) → D x → locally s first f n x ≡ locally s first g n x
unfolding locally
locally_same s h first w D covers f g see zero l x d = see x d
locally_same s h first w D covers f g see (suc n) l x d =
    let below : (y : ℕ) → D y → locally s first f n y ≡ locally s first g n y = locally_same s h first w D covers f g see n (omega arith) in
    let sees : SeeSame s (first + n) (locally s first f n) (locally s first g n) = λ y e. below y (covers n y (omega arith) e) in
    let p : ℕ = first + n in ⊎_elim
    (λ e. cond-true (s.writes p x) (s.effect p (locally s first f n) x) (locally s first f n x) e
    ∙ (h.local p (locally s first f n) (locally s first g n) sees x e
    ∙ sym (cond-true (s.writes p x) (s.effect p (locally s first g n) x) (locally s first g n x) e)))
    (λ e. cond-false (s.writes p x) (s.effect p (locally s first f n) x) (locally s first f n x) e
    ∙ (below x d
    ∙ sym (cond-false (s.writes p x) (s.effect p (locally s first g n) x) (locally s first g n x) e)))
    (cases_Bool (s.writes p x))

-- over the fold they leave the fold
pub locally_fold : (s : Scene) → IsFolded s → (first w : ℕ) (D : ℕ → Type 0) → ((i x : ℕ) → i < w → s.declares (first + i) x ≡ true → D x)
    → (f : ℕ → ℕ) → ((x : ℕ) → D x → f x ≡ s.fold first x) → (n : ℕ) → n ≤ w → (x : ℕ) → D x → locally s first f n x ≡ s.fold (first + n) x
unfolding locally
locally_fold s h first w D covers f see zero l x d = see x d ∙ ap (λ (k : ℕ). s.fold k x) (let e : first ≡ first + 0 = omega arith in e)
locally_fold s h first w D covers f see (suc n) l x d =
    let below : (y : ℕ) → D y → locally s first f n y ≡ s.fold (first + n) y = locally_fold s h first w D covers f see n (omega arith) in
    let sees : SeeSame s (first + n) (locally s first f n) (s.fold (first + n)) = λ y e. below y (covers n y (omega arith) e) in
    let next : suc (first + n) ≡ first + suc n = omega arith in
    let p : ℕ = first + n in ⊎_elim
    (λ e. cond-true (s.writes p x) (s.effect p (locally s first f n) x) (locally s first f n x) e
    ∙ (h.local p (locally s first f n) (s.fold p) sees x e
    ∙ (sym (h.changed p x e) ∙ ap (λ (k : ℕ). s.fold k x) next)))
    (λ e. cond-false (s.writes p x) (s.effect p (locally s first f n) x) (locally s first f n x) e
    ∙ (below x d ∙ (sym (h.kept p x (both_ways _ e)) ∙ ap (λ (k : ℕ). s.fold k x) next)))
    (cases_Bool (s.writes p x))
