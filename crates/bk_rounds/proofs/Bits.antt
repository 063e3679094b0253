-- Bits as members.
use Rattle.std.proofs.Common.{◌≡◌, ◌≢◌, ℕ, ◌*◌, ◌%◌, ◌^◌, ◌<◌, ◌≤◌, ◌↔◌, ◌⊎◌, inl, inr, sym, ap, ◌∙◌, ⊎_elim, arith}
use Rattle.std.specs.Prelude.{bit_or, bit_and}
use Rattle.std.specs.Int.{bit_at, bit_not, trailing_zeros, w128}
use Rattle.std.proofs.lemmas.Bool.{cases_eq, cases_lt}
use Rattle.std.proofs.lemmas.Nat.{and_le_l}
use Rattle.std.proofs.lemmas.Nat.Bits.{bit_at-zero, bit_at_and, bit_at_or, bit_at-lt, bit_at_above, bit_at_not, bit_at_set_same, bit_at_set_other, bit_at_clear_same, bit_at_clear_other, bit_at-trailing_zeros}
use Rattle.bk_rounds.specs.Members.{Has}

pub has_none : (x : ℕ) → Has 0 x → ⊥
has_none x h = omega (arith, bit_at-zero x)

pub has_union : (s t y : ℕ) → Has (bit_or s t) y ↔ (Has s y ⊎ Has t y)
has_union s t y = (
  (λ h. either (omega (arith, bit_at_or s t y, bit_at-lt s y, bit_at-lt t y))),
  (λ h. ⊎_elim (λ l. omega (arith, bit_at_or s t y, l, bit_at-lt t y)) (λ r. omega (arith, bit_at_or s t y, r, bit_at-lt s y)) h),
)
  where
    either : ((Has s y → ⊥) → Has t y) → Has s y ⊎ Has t y
    either h = ⊎_elim (λ e. inl e) (λ n. inr (h n)) (cases_eq (bit_at s y) 1)

has_common : (s t y : ℕ) → Has (bit_and s t) y ↔ (Has s y × Has t y)
has_common s t y = (
  (λ h. (omega (arith, bit_at_and s t y, bit_at-lt s y, bit_at-lt t y, h), omega (arith, bit_at_and s t y, bit_at-lt s y, bit_at-lt t y, h))),
  (λ h. omega (arith, bit_at_and s t y, h.0, h.1)),
)

-- a set of u128 has nobody from 128 on
pub has_below : (s y : ℕ) → s < 2 ^ 128 → Has s y → y < 128
has_below s y fits h = ⊎_elim (λ lt. lt) (λ ge. absurd (omega (arith, bit_at_above s 128 y fits ge, h))) (cases_lt y 128)

pub has_without : (s t y : ℕ) → s < 2 ^ 128 → t < 2 ^ 128 → Has (bit_and s (bit_not w128 t)) y ↔ (Has s y × (Has t y → ⊥))
has_without s t y fits fits' = (
  (λ h. let both = (has_common s (bit_not w128 t) y).0 h in
      let low = has_below s y fits both.0 in
      (both.0, λ k. omega (arith, bit_at_not w128 t y fits' low, both.1, k))),
  (λ h. let low = has_below s y fits h.0 in
      (has_common s (bit_not w128 t) y).1 (h.0, omega (arith, bit_at_not w128 t y fits' low, bit_at-lt t y, h.1))),
)

pub has_with : (s x y : ℕ) → x < 128 → Has (bit_or s (1 * 2 ^ x % 2 ^ 128)) y ↔ (Has s y ⊎ (y ≡ x))
has_with s x y low = ⊎_elim
    (λ e. ((λ h. inr e), (λ h. ap (bit_at (bit_or s (1 * 2 ^ x % 2 ^ 128))) e ∙ bit_at_set_same w128 s x low)))
    (λ n. let same = bit_at_set_other w128 s x low y n in
    ((λ h. inl (sym same ∙ h)), (λ h. ⊎_elim (λ l. same ∙ l) (λ e. absurd (n e)) h)))
    (cases_eq y x)

-- a set that is not empty has a least member, and goes on without it
pub cleared : (s x : ℕ) → s < 2 ^ 128 → x < 128 → Has s x → (y : ℕ) → Has (bit_and s (bit_not w128 (1 * 2 ^ x % 2 ^ 128))) y ↔ (Has s y × (y ≢ x))
cleared s x fits low has y = ⊎_elim
    (λ e. ((λ h. absurd (omega (arith, bit_at_clear_same w128 s x low, sym (ap (bit_at (bit_and s (bit_not w128 (1 * 2 ^ x % 2 ^ 128)))) e) ∙ h))), (λ h. absurd (h.1 e))))
    (λ n. (
      (λ h. (let both = (has_common s (bit_not w128 (1 * 2 ^ x % 2 ^ 128)) y).0 h in both.0, n)),
      (λ h. bit_at_clear_other w128 s x low y (has_below s y fits h.0) n ∙ h.0),
    ))
    (cases_eq y x)

-- the least member of a set that is not empty
pub has_least : (s : ℕ) → 0 < s → s < 2 ^ 128
    → let x = trailing_zeros w128 s in (x < 128) × Has s x × ((y : ℕ) → Has s y → x ≤ y)
has_least s some fits =
    let lowest = bit_at-trailing_zeros w128 s some fits in
    (lowest.0, lowest.1, λ y h. ⊎_elim (λ lt. absurd (omega (arith, lowest.2 y lt, h))) (λ ge. ge) (cases_lt y (trailing_zeros w128 s)))

pub cleared_less : (s x : ℕ) → x < 128 → Has s x → bit_and s (bit_not w128 (1 * 2 ^ x % 2 ^ 128)) < s
cleared_less s x low has = ⊎_elim
    (λ e. absurd (omega (arith, bit_at_clear_same w128 s x low, ap (λ t. bit_at t x) e, has)))
    (λ n. omega (arith, and_le_l s (bit_not w128 (1 * 2 ^ x % 2 ^ 128)), n))
    (cases_eq (bit_and s (bit_not w128 (1 * 2 ^ x % 2 ^ 128))) s)

pub empty_zero : (s : ℕ) → s < 2 ^ 128 → ((y : ℕ) → Has s y → ⊥) → s ≡ 0
empty_zero s fits none = ⊎_elim (λ e. e) (λ n. absurd (none (trailing_zeros w128 s) (has_least s (omega arith) fits).1)) (cases_eq s 0)
