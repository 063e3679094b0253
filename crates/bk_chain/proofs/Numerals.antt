-- The words that a line writes are read as what they write.
use Rattle.std.proofs.Common.{◌≡◌, ℕ, zero, suc, ◌<◌, ◌≤◌, ◌^◌, ◌==◌, ◌&&◌, ◌||◌, Bool, true, false, if◌then◌else◌, List, length, Some, None, Result, Ok, Err, refl, sym, ap, ◌∙◌, arith}
use Rattle.std.specs.Prelude.{codes, not, nat_lt, decimal, slice_index}
use Rattle.std.specs.List.{list_all}
use Rattle.std.specs.Result.{result_ok}
use Rattle.std.specs.Str.Parse.{digits_value}
use Rattle.std.proofs.lemmas.Bool.{ne_eqb, eq-eqb}
use Rattle.std.proofs.lemmas.Bool.Decides.{nat_tests}
use Rattle.std.proofs.lemmas.Fmt.{decimal_is_IsNumeral, decimal_nonempty, digits_decimal, first_decimal, length-decimal-le_succ}
use Rattle.std.proofs.lemmas.Str.Parse.{IsDigitsTest, numerals_by_value}
use Rattle.hex.specs.Hex.{decode_sized, encode_lower}
use Rattle.hex.proofs.HexLemmas.{decode_sized-encode_lower, decode_sized-ok, decode_sized-twice, decode_of-ok}
use Rattle.hex.specs.declared.error.FromHexError.{FromHexError}
use Rattle.bk_base.specs.declared.version.Version.{Version}
use Rattle.bk_base.specs.declared.version.Version.TheVariants as version
use Rattle.bk_results.specs.declared.status.Status.{Status}
use Rattle.bk_results.specs.declared.status.Status.TheVariants as status
use Rattle.bk_results.specs.declared.script_fault.ScriptCode.{ScriptCode}
use Rattle.bk_results.specs.declared.script_fault.ScriptCode.TheVariants as code
use Rattle.bk_script.specs.Words.{is_digit, is_numeral, number_of}
use Rattle.bk_report.specs.Proofs.{IsDigest}
use Rattle.bk_chain.specs.private.Reading.{below, digest_in, end_in, number_below, version_in}

-- ---- numbers

digit_test : (c : ℕ) → 48 ≤ c → c ≤ 57 → is_digit c ≡ true
digit_test c low high = grind (arith, nat_tests)

digit_range : (c : ℕ) → is_digit c ≡ true → (48 ≤ c) × (c ≤ 57)
digit_range c h = grind (arith, nat_tests)

both_true : (a b : Bool) → (a && b) ≡ true → (a ≡ true) × (b ≡ true)
both_true true b e = (refl, e)
both_true false b e = absurd cc

digits_told : IsDigitsTest (λ ds. list_all is_digit ds ≡ true)
digits_told = record {
  empty = refl;
  parts = λ c cs e. let k = both_true (is_digit c) (list_all is_digit cs) e in (digit_range c k.0, k.1);
  more = λ c cs k e i. digit_test c k.0 k.1 i && e i;
}

-- one digit, or the first is not 0
lead : (n : ℕ) → n < 2 ^ 64 → (length (decimal n) == 1 || not (slice_index (decimal n) 0 == 48)) ≡ true
lead zero fits =
    let few = length-decimal-le_succ zero fits in
    let some = decimal_nonempty zero fits in
    let one : (length (decimal zero) == 1) ≡ true = eq-eqb (length (decimal zero)) 1 (omega (arith, few, some)) in
    ap (λ (b : Bool). b || not (slice_index (decimal zero) 0 == 48)) one
lead (suc n) fits =
    let first = first_decimal (suc n) (omega arith) fits in
    let apart : (slice_index (decimal (suc n)) 0 == 48) ≡ false = ne_eqb (slice_index (decimal (suc n)) 0) 48 (λ e. omega (arith, first, e)) in
    or_second (length (decimal (suc n)) == 1) (slice_index (decimal (suc n)) 0 == 48) apart
  where
    or_second : (a b : Bool) → b ≡ false → (a || not b) ≡ true
    or_second true b e = refl
    or_second false b e = ap not e

numeral : (n : ℕ) → n < 2 ^ 64 → is_numeral (decimal n) ≡ true
numeral n fits =
    let digits : list_all is_digit (decimal n) ≡ true = digits_decimal (numerals_by_value _ digits_told) n fits in
    let here = decimal_nonempty n fits in
    let some : nat_lt 0 (length (decimal n)) ≡ true = grind (arith, nat_tests) in
    let one = lead n fits in
    (λ i. digits i && some i && one i)

pub number_read : (n : ℕ) → n < 2 ^ 64 → number_of (decimal n) ≡ Ok n
unfolding number_of
number_read n fits =
    let value : digits_value 10 (decimal n) ≡ n = (decimal_is_IsNumeral n fits).1 in
    let small : nat_lt (digits_value 10 (decimal n)) (2 ^ 64) ≡ true = grind (arith, nat_tests) in
    ap (λ b. if b && nat_lt (digits_value 10 (decimal n)) (2 ^ 64) then Ok (digits_value 10 (decimal n)) else Err code.Number) (numeral n fits)
    ∙ ap (λ b. if b then Ok (digits_value 10 (decimal n)) else Err code.Number) small ∙ ap Ok value

pub below_read : (limit n : ℕ) → n < limit → n < 2 ^ 64 → below limit (decimal n) ≡ Some n
below_read limit n few fits =
    let test : nat_lt n limit ≡ true = grind (arith, nat_tests) in
    ap (number_below limit) (number_read n fits) ∙ ap (λ b. if b then Some n else None) test

number_limits : (limit n : ℕ) (r : Result ℕ ScriptCode) → number_below limit r ≡ Some n → n < limit
number_limits limit n (Ok m) h = by_test (nat_lt m limit) refl h
  where
    by_test : (b : Bool) → nat_lt m limit ≡ b → (if b then Some m else None) ≡ Some n → n < limit
    by_test true t e = let same : m ≡ n = cc in let low : m < limit = grind (arith, nat_tests) in omega (arith, same, low)
    by_test false t e = absurd cc
number_limits limit n (Err found) h = absurd cc

pub below_limits : (limit n : ℕ) (word : List ℕ) → below limit word ≡ Some n → n < limit
below_limits limit n word h = number_limits limit n (number_of word) h

-- ---- digests

pub digest_read : (d : List ℕ) → IsDigest d → digest_in (encode_lower d) ≡ Some d
digest_read d good = ap result_ok (decode_sized-encode_lower d 32 good.sized good.bytes)

digest_good : (word d : List ℕ) (r : Result (List ℕ) FromHexError) → decode_sized word 32 ≡ r → result_ok r ≡ Some d → IsDigest d
digest_good word d (Ok bytes) e h =
    let same : bytes ≡ d = cc in
    let long = decode_sized-ok word 32 bytes e in
    let ok = decode_of-ok word bytes (sym (decode_sized-twice word 32 long) ∙ e) in
    rw (← same) (record { sized = omega (arith, ok.2, long); bytes = ok.3 })
digest_good word d (Err found) e h = absurd cc

pub digest_is : (word d : List ℕ) → digest_in word ≡ Some d → IsDigest d
digest_is word d h = digest_good word d (decode_sized word 32) refl h

-- ---- versions and ends

abbrev pub version_digit : Version → List ℕ
version_digit version.One = codes "1"
version_digit version.Two = codes "2"

abbrev pub end_digits : Status → List ℕ
end_digits status.Whole = codes "whole"
end_digits status.Missing = codes "short"

pub version_read : (v : Version) → version_in (version_digit v) ≡ Some v
version_read version.One = refl
version_read version.Two = refl

pub end_read : (s : Status) → end_in (end_digits s) ≡ Some s
end_read status.Whole = refl
end_read status.Missing = refl
