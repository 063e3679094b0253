-- What the digits of a number are worth.
use Rattle.std.proofs.Common.{◌≡◌, ℕ, ◌+◌, ◌*◌, ◌-◌, ◌<◌, ◌≤◌, ◌^◌, ◌&&◌, Bool, nat_lt, if◌then◌else◌, subst, Result, true, false, List, [], ◌∷◌, length, get_or, drop, refl, sym, ap, ◌∙◌, arith}
use Rattle.std.specs.List.{list_all}
use Rattle.std.specs.Char.{digit_value}
use Rattle.std.specs.Str.Parse.{digits_value_after}
use Rattle.std.proofs.lemmas.Bool.Decides.{nat_tests}
use Rattle.std.proofs.lemmas.List.{at_drop_more}
use Rattle.std.proofs.lemmas.List.Folds.{list_all_at}
use Rattle.std.proofs.lemmas.Bool.{and_parts}
use Rattle.std.specs.Str.Parse.{digits_value}
use Rattle.bk_script.specs.Words.{is_digit, is_numeral}

more : (n m x : ℕ) → n ≤ m → n ≤ m * 10 + x
more n m x h = omega arith

-- further digits make a number no smaller
pub grows : (ds : List ℕ) (n m : ℕ) → n ≤ m → n ≤ digits_value_after 10 m ds
grows [] n m h = h
grows (d ∷ ds) n m h = grows ds n (m * 10 + digit_value d) (more n m (digit_value d) h)

pub digit_is : (c : ℕ) → 48 ≤ c → c ≤ 57 → digit_value c ≡ c - 48
digit_is c low high = grind (arith, nat_tests)

by_cases : (b : Bool) → (b ≡ false → true ≡ false) → b ≡ true
by_cases true h = refl
by_cases false h = sym (h refl)

-- each byte of a numeral is a digit
pub digit_at : (ds : List ℕ) (i : ℕ) → i < length ds → list_all is_digit ds ≡ true → is_digit (get_or ds i 0) ≡ true
digit_at ds i l e = by_cases (is_digit (get_or ds i 0)) (λ f. sym e ∙ list_all_at is_digit ds i 0 l f)

pub digit_bounds : (c : ℕ) → is_digit c ≡ true → (48 ≤ c) × (c ≤ 57)
digit_bounds c h = (grind (arith, nat_tests), grind (arith, nat_tests))

-- the digit at this place counts once more
pub digit_counts : (ds : List ℕ) (i n : ℕ) → i < length ds → list_all is_digit ds ≡ true
    → digits_value_after 10 n (drop i ds) ≡ digits_value_after 10 (10 * n + (get_or ds i 0 - 48)) (drop (i + 1) ds)
digit_counts ds i n l e =
    let b = digit_bounds (get_or ds i 0) (digit_at ds i l e) in
    let v = digit_is (get_or ds i 0) b.0 b.1 in
    let s : n * 10 + digit_value (get_or ds i 0) ≡ 10 * n + (get_or ds i 0 - 48) = rw v (omega arith) in
    at_drop_more (digits_value_after 10 n) ds i 0 l ∙ ap (λ x. digits_value_after 10 x (drop (i + 1) ds)) s

-- a numeral has digits alone
pub numeral_digits : (ds : List ℕ) → is_numeral ds ≡ true → list_all is_digit ds ≡ true
numeral_digits ds h = (and_parts (list_all is_digit ds) (nat_lt 0 (length ds)) (and_parts (list_all is_digit ds && nat_lt 0 (length ds)) _ h).0).0

-- a number that no longer fits while it is read
pub too_large : (ds : List ℕ) (i n d : ℕ) → i < length ds → is_numeral ds ≡ true → d ≡ get_or ds i 0 - 48 → 2 ^ 64 ≤ 10 * n + d
    → digits_value_after 10 n (drop i ds) ≡ digits_value 10 ds → 2 ^ 64 ≤ digits_value 10 ds
too_large ds i n d l e is h v =
    let P : ℕ → Type 0 = λ x. 2 ^ 64 ≤ x in
    let counts = digit_counts ds i n l (numeral_digits ds e) in
    subst P (sym counts ∙ v) (grows (drop (i + 1) ds) (2 ^ 64) (10 * n + (get_or ds i 0 - 48)) (subst (λ x. 2 ^ 64 ≤ 10 * n + x) is h))

-- a test of two that fails in its second part
pub refused : {A E : Type 0} (b : Bool) (v : ℕ) (good : Result A E) (bad : Result A E) → 2 ^ 64 ≤ v → (if b && nat_lt v (2 ^ 64) then good else bad) ≡ bad
refused true v good bad h = let f : nat_lt v (2 ^ 64) ≡ false = grind (arith, nat_tests) in ap (λ t. if t then good else bad) f
refused false v good bad h = refl

-- the number so far with one digit more
pub counted : (ds : List ℕ) (i n d : ℕ) → i < length ds → is_numeral ds ≡ true → d ≡ get_or ds i 0 - 48
    → digits_value_after 10 n (drop i ds) ≡ digits_value 10 ds → digits_value_after 10 (10 * n + d) (drop (i + 1) ds) ≡ digits_value 10 ds
counted ds i n d l e is v = ap (λ x. digits_value_after 10 (10 * n + x) (drop (i + 1) ds)) is ∙ sym (digit_counts ds i n l (numeral_digits ds e)) ∙ v
