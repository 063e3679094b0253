-- The members that a mask marks are as many as its bytes have ones.
use Rattle.std.proofs.Common.{◌≡◌, ℕ, zero, suc, ◌+◌, ◌*◌, ◌/◌, ◌%◌, ◌^◌, ◌<◌, ◌≤◌, Bool, true, false, cond, eqb, List, ◌∷◌, ◌++◌, length, get_or, refl, sym, ap, subst, ◌∙◌, arith, zero-add, add-zero}
use Rattle.std.specs.Prelude.{filter}
use Rattle.std.specs.Int.RustNames.{count_ones}
use Rattle.std.specs.List.{range_with_len}
use Rattle.std.specs.Int.{bit_at}
use Rattle.std.proofs.lemmas.List.{length-append}
use Rattle.std.proofs.lemmas.List.Elements.{filter-append}
use Rattle.std.proofs.lemmas.Nat.{ones_cat, shr-shr, pow-add}
use Rattle.bk_cert.specs.Mask.{is_signer}
use Rattle.bk_cert.proofs.Marks.{marked}

-- ---- the ones of a number are its bits

abbrev has_bit : ℕ → ℕ → Bool
has_bit n i = eqb (bit_at n i) 1

one_bit : (r : ℕ) → r < 2 → count_ones r ≡ cond {A = ℕ} (eqb r 1) 1 0
unfolding count_ones
one_bit zero lt = refl
one_bit (suc zero) lt = refl
one_bit (suc (suc r)) lt = absurd (omega arith)

halves : (m : ℕ) → count_ones m ≡ count_ones (m / 2) + count_ones (m % 2)
halves m = subst (λ (k : ℕ). count_ones k ≡ count_ones (m / 2) + count_ones (m % 2)) (omega arith) (ones_cat 1 (m / 2) (m % 2) (omega arith))

no_ones : (m : ℕ) → m < 1 → count_ones m ≡ 0
unfolding count_ones
no_ones zero lt = refl
no_ones (suc m) lt = absurd (omega arith)

pub ones_from : (k a n : ℕ) → n / 2 ^ a < 2 ^ k → count_ones (n / 2 ^ a) ≡ length (filter (has_bit n) (range_with_len a k))
ones_from zero a n lt = no_ones (n / 2 ^ a) lt
ones_from (suc k) a n lt =
    let m : ℕ = n / 2 ^ a in
    let half : n / 2 ^ a / 2 ≡ n / 2 ^ (a + 1) = shr-shr n a 1 in
    let below : n / 2 ^ a / 2 < 2 ^ k = half_below k (n / 2 ^ a) lt in
    let rest : count_ones (n / 2 ^ (a + 1)) ≡ length (filter (has_bit n) (range_with_len (a + 1) k)) = ones_from k (a + 1) n (subst (λ (h : ℕ). h < 2 ^ k) half below) in
    halves m ∙ head_and_rest (count_ones (n / 2 ^ a / 2)) (count_ones (n / 2 ^ a % 2)) (has_bit n a) a (filter (has_bit n) (range_with_len (a + 1) k)) (ap count_ones half ∙ rest) (one_bit (n / 2 ^ a % 2) (omega arith))
  where
    half_below : (k m : ℕ) → m < 2 ^ suc k → m / 2 < 2 ^ k
    half_below k m lt = let two : 2 ^ (1 + k) ≡ 2 * 2 ^ k = pow-add 2 1 k in let one : 2 ^ suc k ≡ 2 ^ (1 + k) = ap (λ (i : ℕ). 2 ^ i) (omega arith) in omega arith

    head_and_rest : (high low : ℕ) (b : Bool) (x : ℕ) (xs : List ℕ) → high ≡ length xs → low ≡ cond {A = ℕ} b 1 0 → high + low ≡ length (cond b (x ∷ xs) xs)
    head_and_rest high low true x xs e0 e1 = omega arith
    head_and_rest high low false x xs e0 e1 = omega arith

-- ---- the bits of one byte of a mask, from member 8 * j + a on

in_byte : (mask : List ℕ) (j a : ℕ) → a < 8 → is_signer mask (8 * j + a) ≡ has_bit (get_or mask j 0) a
in_byte mask j a lt =
    let place : (8 * j + a) / 8 ≡ j = omega arith in
    let bit : (8 * j + a) % 8 ≡ a = omega arith in
    rw (place, bit) refl

byte_marks : (mask : List ℕ) (j a k : ℕ) → a + k ≤ 8 → length (filter (is_signer mask) (range_with_len (8 * j + a) k)) ≡ length (filter (has_bit (get_or mask j 0)) (range_with_len a k))
byte_marks mask j a zero le = refl
byte_marks mask j a (suc k) le =
    let next : 8 * j + (a + 1) ≡ 8 * j + a + 1 = omega arith in
    let rest : length (filter (is_signer mask) (range_with_len (8 * j + a + 1) k)) ≡ length (filter (has_bit (get_or mask j 0)) (range_with_len (a + 1) k)) =
    subst (λ (m : ℕ). length (filter (is_signer mask) (range_with_len m k)) ≡ length (filter (has_bit (get_or mask j 0)) (range_with_len (a + 1) k))) next (byte_marks mask j (a + 1) k (omega arith)) in
    let first : is_signer mask (8 * j + a) ≡ has_bit (get_or mask j 0) a = in_byte mask j a (omega arith) in
    longer (is_signer mask (8 * j + a)) (has_bit (get_or mask j 0) a) (8 * j + a) a (filter (is_signer mask) (range_with_len (8 * j + a + 1) k)) (filter (has_bit (get_or mask j 0)) (range_with_len (a + 1) k)) first rest
  where
    longer : (b c : Bool) (x y : ℕ) (xs ys : List ℕ) → b ≡ c → length xs ≡ length ys → length (cond b (x ∷ xs) xs) ≡ length (cond c (y ∷ ys) ys)
    longer true true x y xs ys e len = ap suc len
    longer false false x y xs ys e len = len
    longer true false x y xs ys e len = absurd cc
    longer false true x y xs ys e len = absurd cc

range_parts : (a m k : ℕ) → range_with_len a (m + k) ≡ range_with_len a m ++ range_with_len (a + m) k
range_parts a zero k = rw (zero-add k, add-zero a) refl
range_parts a (suc m) k =
    let one : suc m + k ≡ suc (m + k) = omega arith in
    let shift : a + 1 + m ≡ a + suc m = omega arith in
    ap (range_with_len a) one ∙ ap (λ (r : List ℕ). a ∷ r) (range_parts (a + 1) m k ∙ ap (λ (s : ℕ). range_with_len (a + 1) m ++ range_with_len s k) shift)

range_after : (m k : ℕ) → range_with_len 0 (m + k) ≡ range_with_len 0 m ++ range_with_len m k
range_after m k = range_parts 0 m k ∙ ap (λ (s : ℕ). range_with_len 0 m ++ range_with_len s k) (zero-add m)

-- one byte more is counted
pub byte_counted : (mask : List ℕ) (j signers ones : ℕ) → get_or mask j 0 < 256 → signers ≡ length (marked mask (8 * j)) → ones ≡ count_ones (get_or mask j 0) → signers + ones ≡ length (marked mask (8 * (j + 1)))
byte_counted mask j signers ones lt so_far byte =
    let more : marked mask (8 * j + 8) ≡ marked mask (8 * j) ++ filter (is_signer mask) (range_with_len (8 * j) 8) = ap (filter (is_signer mask)) (range_after (8 * j) 8) ∙ filter-append (is_signer mask) (range_with_len 0 (8 * j)) (range_with_len (8 * j) 8) in
    let bits : count_ones (get_or mask j 0) ≡ length (filter (has_bit (get_or mask j 0)) (range_with_len 0 8)) = whole_byte (get_or mask j 0) lt in
    let here : length (filter (is_signer mask) (range_with_len (8 * j) 8)) ≡ count_ones (get_or mask j 0) = from_first mask j ∙ sym bits in
    let sum : length (marked mask (8 * j + 8)) ≡ length (marked mask (8 * j)) + length (filter (is_signer mask) (range_with_len (8 * j) 8)) = ap length more ∙ length-append (marked mask (8 * j)) (filter (is_signer mask) (range_with_len (8 * j) 8)) in
    let next : 8 * j + 8 ≡ 8 * (j + 1) = omega arith in
    subst (λ (n : ℕ). signers + ones ≡ length (marked mask n)) next (omega arith)
  where
    whole_byte : (n : ℕ) → n < 256 → count_ones n ≡ length (filter (has_bit n) (range_with_len 0 8))
    whole_byte n lt = let same : n / 2 ^ 0 ≡ n = omega arith in subst (λ (m : ℕ). count_ones m ≡ length (filter (has_bit n) (range_with_len 0 8))) same (ones_from 8 0 n (omega arith))

    from_first : (mask : List ℕ) (j : ℕ) → length (filter (is_signer mask) (range_with_len (8 * j) 8)) ≡ length (filter (has_bit (get_or mask j 0)) (range_with_len 0 8))
    from_first mask j = subst (λ (m : ℕ). length (filter (is_signer mask) (range_with_len m 8)) ≡ length (filter (has_bit (get_or mask j 0)) (range_with_len 0 8))) (add-zero (8 * j)) (byte_marks mask j 0 8 (omega arith))
