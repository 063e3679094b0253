-- A text of lower-case digits is the text of some bytes, and of those that it decodes to.
use Rattle.std.proofs.Common.{◌≡◌, ℕ, zero, suc, ◌+◌, ◌-◌, ◌*◌, ◌/◌, ◌%◌, ◌<◌, ◌==◌, Bool, true, false, ◌&&◌, ◌||◌, inl, inr, List, [], ◌∷◌, length, get_or, slice_index, if◌then◌else◌, Result, Ok, Err, refl, sym, ◌∙◌, arith, lit≤}
use Rattle.std.specs.Prelude.{nat_le, not, IsOk}
use Rattle.std.proofs.lemmas.Bool.{and_parts, cases_lt, eqb-true}
use Rattle.std.proofs.lemmas.List.Elements.{All-head, All-tail}
use Rattle.std.proofs.lemmas.Str.Ascii.{IsAscii-from_reads}
use Rattle.std.proofs.lemmas.Str.{IsUtf8-from_ascii}
use Rattle.std.specs.List.{AllPass}
use Rattle.std.specs.Str.{IsAscii, IsUtf8}
use Rattle.hex.specs.Hex.{IsBytes, decode_of, decode_sized, encode_lower, encode_with, is_hex_digit, lower_digits}
use Rattle.hex.specs.declared.error.FromHexError.{FromHexError}
use Rattle.hex.proofs.HexLemmas.{IsAscii-encode_with, decode_of-encode_lower, decode_sized-ok, decode_sized-twice, decode_of-same, IsOk-decode_sized}
use Rattle.bk_digest.specs.Digest.{IsHexDigest, is_lower_hex}

quotient_zero : (x : ℕ) → x / 128 ≡ 0 → x < 128
quotient_zero x h = omega arith

-- the test that the first n digits of the table are ASCII
abbrev all_low : ℕ → Bool
all_low zero = true
all_low (suc n) = (slice_index lower_digits n / 128 == 0) && all_low n

low_at : (n k : ℕ) → all_low n ≡ true → k < n → slice_index lower_digits k < 128
low_at zero k h lt = absurd (omega arith)
low_at (suc n) k h lt =
    let parts = and_parts (slice_index lower_digits n / 128 == 0) (all_low n) h in
    elim (cases_lt k n) [
      | inl below ↦ low_at n k parts.1 below
      | inr top ↦
          let e : k ≡ n = omega arith in
          let z : slice_index lower_digits n / 128 ≡ 0 = eqb-true (slice_index lower_digits n / 128) 0 parts.0 in
          rw e (quotient_zero (slice_index lower_digits n) z)
    ]

IsAscii-lower_digits : IsAscii lower_digits
IsAscii-lower_digits = IsAscii-from_reads lower_digits 16 (lit≤ tt) (λ k h. low_at 16 k refl h)

-- the hexadecimal text of some bytes is text
pub IsUtf8-encode_lower : (bytes : List ℕ) → IsUtf8 (encode_lower bytes)
IsUtf8-encode_lower bytes = IsUtf8-from_ascii _ (IsAscii-encode_with lower_digits bytes IsAscii-lower_digits)

-- the place of a lower-case digit in the table
abbrev place_of : ℕ → ℕ
place_of c = if nat_le c 57 then c - 48 else c - 87

-- the test that the digit c is at its place
abbrev stands : ℕ → Bool
stands c = not (is_lower_hex c) || slice_index lower_digits (place_of c) == c

-- the test of the first n bytes
abbrev all_stand : ℕ → Bool
all_stand zero = true
all_stand (suc n) = stands n && all_stand n

all_stand-at : (n c : ℕ) → all_stand n ≡ true → c < n → stands c ≡ true
all_stand-at zero c h lt = absurd (omega arith)
all_stand-at (suc n) c h lt =
    let parts = and_parts (stands n) (all_stand n) h in
    elim (cases_lt c n) [
      | inl below ↦ all_stand-at n c parts.1 below
      | inr top ↦
          let e : c ≡ n = omega arith in
          rw e parts.0
    ]

-- a lower-case digit is below 103
lower_below : (c : ℕ) → is_lower_hex c ≡ true → c < 103
lower_below c h = grind (arith)

or_then : (a b : Bool) → a ≡ true → (not a || b) ≡ true → b ≡ true
or_then true b h s = s
or_then false b h s = cc h

place_below : (c : ℕ) → is_lower_hex c ≡ true → place_of c < 16
place_below c h = grind (arith)

-- a lower-case digit is in the table
digit_place : (c : ℕ) → is_lower_hex c ≡ true → (place_of c < 16) × (slice_index lower_digits (place_of c) ≡ c)
digit_place c h =
    let low = lower_below c h in
    let s = or_then (is_lower_hex c) (slice_index lower_digits (place_of c) == c) h (all_stand-at 103 c refl low) in
    (place_below c h, eqb-true (slice_index lower_digits (place_of c)) c s)

IsBytes-cons : (b : ℕ) (rest : List ℕ) → b < 256 → IsBytes rest → IsBytes (b ∷ rest)
IsBytes-cons b rest h hs zero = h
IsBytes-cons b rest h hs (suc i) = hs i

abbrev IsLower : ℕ → Type 0
IsLower c = is_lower_hex c ≡ true

-- lower-case digits in pairs are the text of some bytes
spelled : (s : List ℕ) → length s % 2 ≡ 0 → AllPass is_lower_hex s → (bytes : List ℕ) × (encode_lower bytes ≡ s) × IsBytes bytes
unfolding encode_with
spelled [] even h = ([], refl, λ k. omega arith)
spelled (a ∷ []) even h = absurd (omega arith)
spelled (a ∷ b ∷ rest) even h =
    let tail = All-tail IsLower a (b ∷ rest) h in
    let pa = digit_place a (All-head IsLower a (b ∷ rest) h) in
    let pb = digit_place b (All-head IsLower b rest tail) in
    let ih = spelled rest (omega arith) (All-tail IsLower b rest tail) in
    let byte : ℕ = place_of a * 16 + place_of b in
    let high : byte / 16 ≡ place_of a = omega (arith, pa.0, pb.0) in
    let low : byte % 16 ≡ place_of b = omega (arith, pa.0, pb.0) in
    (byte ∷ ih.0, rw (high, low, pa.1, pb.1, ih.1) refl, IsBytes-cons byte ih.0 (omega (arith, pa.0, pb.0)) ih.2)

-- what lower-case digits decode to has them as its text
pub decoded_text : (s bytes : List ℕ) → decode_sized s 32 ≡ Ok bytes → AllPass is_lower_hex s → encode_lower bytes ≡ s
decoded_text s bytes read h =
    let len = decode_sized-ok s 32 bytes read in
    let text = spelled s (omega arith) h in
    let back : decode_of s ≡ Ok text.0 = rw text.1 at (decode_of-encode_lower text.0 text.2) in
    let same : bytes ≡ text.0 = decode_of-same s bytes text.0 (sym (decode_sized-twice s 32 len) ∙ read) back in
    rw same text.1

-- a lower-case digit is a digit
lower_is_hex : (c : ℕ) → is_lower_hex c ≡ true → is_hex_digit c ≡ true
lower_is_hex c h = grind (arith)

err_not_ok : (r : Result (List ℕ) FromHexError) (e : FromHexError) → r ≡ Err e → IsOk r → ⊥
err_not_ok (Ok x) e h k = cc h
err_not_ok (Err d) e h k = cc k

-- 64 lower-case digits are not refused
pub refused_other : (s : List ℕ) (e : FromHexError) → decode_sized s 32 ≡ Err e → IsHexDigest s → ⊥
refused_other s e read h =
    let ok = (IsOk-decode_sized s 32).1 (h.0, λ k d lt. lower_is_hex (get_or s k d) (h.1 k d lt)) in
    err_not_ok (decode_sized s 32) e read ok
