-- The text of numbers.
use Rattle.std.proofs.Common.{◌≡◌, ℕ, ◌+◌, ◌-◌, ◌^◌, ◌<◌, ◌≤◌, List, ◌∷◌, length, drop, ap, ◌∙◌, arith}
use Rattle.std.proofs.lemmas.Fmt.{length-decimal-le}
use Rattle.std.proofs.lemmas.List.{drop-set}
use Rattle.std.specs.Fmt.{decimal}
use Rattle.std.specs.Prelude.{slice_set}

-- a number of eight bytes has few digits
pub number_short : (n : ℕ) → n < 2 ^ 64 → length (decimal n) ≤ 20
number_short n fits = length-decimal-le 20 n (omega arith) (omega (arith, fits)) fits

-- a byte that is set before a place
pub set_before : (xs rest : List ℕ) (at b : ℕ) → 0 < at → at ≤ length xs → drop at xs ≡ rest → drop (at - 1) (slice_set xs (at - 1) b) ≡ b ∷ rest
set_before xs rest at b some within e =
    let back : (at - 1) + 1 ≡ at = omega (arith, some) in
    drop-set xs (at - 1) b (omega (arith, some, within)) ∙ ap (λ (t : List ℕ). b ∷ t) (ap (λ (n : ℕ). drop n xs) back ∙ e)
