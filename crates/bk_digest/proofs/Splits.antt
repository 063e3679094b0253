-- Powers of two, and where a tree splits.
use Rattle.std.proofs.Common.{◌≡◌, ℕ, zero, suc, ◌+◌, ◌-◌, ◌*◌, ◌%◌, ◌^◌, ◌<◌, ◌≤◌, inl, inr, refl, sym, ap, ◌∙◌, subst, arith, if◌then◌else◌}
use Rattle.std.specs.Prelude.{nat_le, nat_lt}
use Rattle.std.specs.Int.{IsPowerOfTwo}
use Rattle.std.proofs.Math.Pow.{pow_mono}
use Rattle.std.proofs.lemmas.Nat.{one_shl, pow_pos}
use Rattle.std.proofs.lemmas.Bool.{cases_lt}
use Rattle.bk_digest.specs.Tree.{IsSplit}

pub if_le : {A : Type 0} (m n : ℕ) (x y : A) → m ≤ n → (if nat_le m n then x else y) ≡ x
if_le m n x y h = grind (arith)

pub if_not_le : {A : Type 0} (m n : ℕ) (x y : A) → n < m → (if nat_le m n then x else y) ≡ y
if_not_le m n x y h = grind (arith)

pub if_lt : {A : Type 0} (m n : ℕ) (x y : A) → m < n → (if nat_lt m n then x else y) ≡ x
if_lt m n x y h = grind (arith)

pub if_not_lt : {A : Type 0} (m n : ℕ) (x y : A) → n ≤ m → (if nat_lt m n then x else y) ≡ y
if_not_lt m n x y h = grind (arith)

pub double : (d : ℕ) → 2 ^ suc d ≡ 2 ^ d + 2 ^ d
double d = omega arith

-- as many leaves as the depth fit
pub le_pow : (n : ℕ) → n ≤ 2 ^ n
le_pow zero = omega arith
le_pow (suc n) = let ih = le_pow n in let p = pow_pos n in let e = double n in omega arith

-- d with j added, one at a time
abbrev raised : ℕ → ℕ → ℕ
raised zero d = d
raised (suc j) d = suc (raised j d)

raised-add : (j d : ℕ) → raised j d ≡ d + j
raised-add zero d = omega arith
raised-add (suc j) d = let e = raised-add j d in omega arith

-- a function of the depth that stays from one depth that is enough to the next is one at all of these
raised-steady : {A : Type 0} (f : ℕ → A) (n : ℕ) → ((d : ℕ) → n ≤ 2 ^ d → f (suc d) ≡ f d)
    → (j d : ℕ) → n ≤ 2 ^ d → f (raised j d) ≡ f d
raised-steady f n step zero d h = refl
raised-steady f n step (suc j) d h =
    let more : d ≤ raised j d = omega (arith, raised-add j d) in
    let wide : 2 ^ d ≤ 2 ^ raised j d = pow_mono more in
    step (raised j d) (omega arith) ∙ raised-steady f n step j d h

pub steady : {A : Type 0} (f : ℕ → A) (n : ℕ) → ((d : ℕ) → n ≤ 2 ^ d → f (suc d) ≡ f d)
    → (d e : ℕ) → n ≤ 2 ^ d → n ≤ 2 ^ e → f d ≡ f e
steady f n step d e hd he =
    let same : raised e d ≡ raised d e = omega (arith, raised-add e d, raised-add d e) in
    sym (raised-steady f n step e d hd) ∙ ap f same ∙ raised-steady f n step d e he

-- ---- the split

-- a split is a power of two, and twice it is enough
pub split_parts : (k n : ℕ) → IsSplit k n → (e : ℕ) × (k ≡ 2 ^ e) × (2 ^ e < n) × (n ≤ 2 ^ suc e)
split_parts k n h =
    let e = h.0.0 in
    let is : k ≡ 2 ^ e = h.0.1 in
    let below : 2 ^ e < n = subst (λ (x : ℕ). x < n) is h.1 in
    let twice = double e in
    let pos = pow_pos e in
    elim (cases_lt (2 ^ suc e) n) [
      | inl room ↦
          let no : 2 ^ suc e ≤ k = h.2 (2 ^ suc e) (suc e, refl) room in
          absurd (omega arith)
      | inr enough ↦ (e, is, below, enough)
    ]

-- and the other way round
pub split_from : (e n : ℕ) → 2 ^ e < n → n ≤ 2 ^ suc e → IsSplit (2 ^ e) n
split_from e n low high = ((e, refl), low, λ p h lt. largest e n high p h lt)
  where
    largest : (e n : ℕ) → n ≤ 2 ^ suc e → (p : ℕ) → IsPowerOfTwo p → p < n → p ≤ 2 ^ e
    largest e n high p h lt =
        elim (cases_lt e h.0) [
          | inl more ↦
              let le : suc e ≤ h.0 = omega arith in
              let wide : 2 ^ suc e ≤ 2 ^ h.0 = pow_mono le in
              let is : p ≡ 2 ^ h.0 = h.1 in
              absurd (omega arith)
          | inr less ↦
              let wide : 2 ^ h.0 ≤ 2 ^ e = pow_mono less in
              let is : p ≡ 2 ^ h.0 = h.1 in
              omega arith
        ]

split_within : (d n : ℕ) → 1 < n → n ≤ 2 ^ d → (k : ℕ) × IsSplit k n
split_within zero n more fits = absurd (omega arith)
split_within (suc d) n more fits =
    elim (cases_lt (2 ^ d) n) [
      | inl low ↦ (2 ^ d, split_from d n low fits)
      | inr enough ↦ split_within d n more enough
    ]

-- each tree of two leaves or more splits
pub split_exists : (n : ℕ) → 1 < n → (k : ℕ) × IsSplit k n
split_exists n more = split_within n n more (le_pow n)

-- the split by the logarithm of one less, as the code shifts it
pub split_at_log : (e n : ℕ) → 2 ^ e ≤ n - 1 → n - 1 < 2 * 2 ^ e → e < 64 → 1 < n → IsSplit (1 * 2 ^ e % 18446744073709551616) n
split_at_log e n low high bound more =
    let twice = double e in
    let below : 2 ^ e < n = omega arith in
    let enough : n ≤ 2 ^ suc e = omega arith in
    rw (one_shl e 64 bound) (split_from e n below enough)
