-- The weights of a committee's members.
use Rattle.std.proofs.Common.{◌≡◌, ℕ, ◌*◌, ◌/◌, ◌-◌, ◌≤◌, Bool, true, ◌&&◌, ltb, leb, eqb, List, [], ◌∷◌, length, take, drop, map, get_or, refl, sym, ap, ◌∙◌, length-drop, arith}
use Rattle.std.specs.Int.{w32, from_be_bytes}
use Rattle.std.specs.List.{list_all}
use Rattle.std.specs.Simd.{first_chunks}
use Rattle.std.proofs.lemmas.List.{take_all}
use Rattle.std.proofs.lemmas.Bool.Decides.{nat_tests}
use Rattle.bk_base.specs.declared.limits.TheConstants.{MOST_MEMBERS}
use Rattle.bk_base.specs.declared.version.Version.TheVariants.{Two}
use Rattle.bk_base.specs.Committee.{is_committee}

all_mapped : (p : ℕ → Bool) (f : List ℕ → ℕ) (xs : List (List ℕ)) → list_all p (map f xs) ≡ list_all (λ x. p (f x)) xs
all_mapped p f [] = refl
all_mapped p f (x ∷ xs) = ap (λ (b : Bool). p (f x) && b) (all_mapped p f xs)

-- the test that the code makes of the bytes of weights
abbrev pub tested : List ℕ → Bool
tested weights = list_all (λ w. ltb 0 (from_be_bytes w32 w)) (first_chunks 4 (length weights / 4) weights)

-- the slice from a place on
abbrev pub slice_from : ℕ → List ℕ → List ℕ
slice_from at xs = take (length xs - at) (drop at xs)

slice_from_is : (at : ℕ) (xs : List ℕ) → slice_from at xs ≡ drop at xs
slice_from_is at xs = take_all (length xs - at) (drop at xs) (omega (arith, length-drop at xs))

-- the test of a payload of version Two with a good count and length is that of its weights
pub two_is : (payload : List ℕ) (result : Bool) → 1 ≤ length payload → (1 ≤ get_or payload 0 0) → (get_or payload 0 0 ≤ 128) → length (slice_from 1 payload) ≡ 36 * get_or payload 0 0
    → result ≡ tested (slice_from (32 * get_or payload 0 0) (slice_from 1 payload)) → result ≡ is_committee Two payload
two_is [] result some low high len tests = absurd (omega arith)
two_is (n ∷ bytes) result some low high len tests =
    let tail : slice_from 1 (n ∷ bytes) ≡ bytes = slice_from_is 1 (n ∷ bytes) in
    let is : slice_from (32 * n) (slice_from 1 (n ∷ bytes)) ≡ drop (32 * n) bytes = ap (slice_from (32 * n)) tail ∙ slice_from_is (32 * n) bytes in
    let sized : length bytes ≡ 36 * n = sym (ap length tail) ∙ len in
    let quarter : length (drop (32 * n) bytes) / 4 ≡ n = omega (arith, length-drop (32 * n) bytes, sized) in
    let at_least : leb 1 n ≡ true = grind (arith, nat_tests, low) in
    let at_most : leb n MOST_MEMBERS ≡ true = grind (arith, nat_tests, high) in
    let exact : eqb (length bytes) (36 * n) ≡ true = grind (arith, nat_tests, sized) in
    let same : tested (drop (32 * n) bytes) ≡ list_all (λ weight. ltb 0 weight) (map (from_be_bytes w32) (first_chunks 4 n (drop (32 * n) bytes))) =
    ap (λ (k : ℕ). list_all (λ w. ltb 0 (from_be_bytes w32 w)) (first_chunks 4 k (drop (32 * n) bytes))) quarter ∙ sym (all_mapped (λ weight. ltb 0 weight) (from_be_bytes w32) (first_chunks 4 n (drop (32 * n) bytes))) in
    rw (at_least, at_most, exact) (tests ∙ ap tested is ∙ same)
