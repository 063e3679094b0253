-- Weights: those of version One are 1 each, those of version Two are read of four bytes each, and how much they add up to.
use Rattle.std.proofs.Common.{◌≡◌, ℕ, zero, suc, ◌+◌, ◌*◌, ◌^◌, ◌<◌, ◌≤◌, true, ltb, List, [], ◌∷◌, ◌++◌, length, take, drop, map, sum, refl, sym, ap, ◌∙◌, arith}
use Rattle.std.specs.Prelude.{replicate}
use Rattle.std.specs.List.{AllByRecursion, flat_map, list_all}
use Rattle.std.specs.Int.{w32, to_be_bytes, from_be_bytes}
use Rattle.std.specs.Simd.{first_chunks}
use Rattle.std.proofs.lemmas.Bool.{and_parts, and_from, lt-ltb, ltb-true}
use Rattle.std.proofs.lemmas.List.{length-append, length-take-le, length-drop, take-append-drop, take_at, drop_at, nil_from_length}
use Rattle.std.proofs.lemmas.List.Concat.{flat_map-cons}
use Rattle.std.proofs.lemmas.List.Sums.{sum_by-cons}
use Rattle.bk_base.specs.Numbers.{IsBytes}
use Rattle.bk_base.proofs.FieldLemmas.{wide32}
use Rattle.bk_base.proofs.FieldLemmas.{IsBytes-take, IsBytes-drop}
use Rattle.bk_base.specs.declared.version.Version.{Version}
use Rattle.bk_base.specs.declared.version.Version.TheVariants as version
use Rattle.bk_committee.specs.Payload.{IsWeight}

-- the number that four bytes are
abbrev pub number : List ℕ → ℕ
number four = from_be_bytes w32 four

-- ---- ones

-- n times 1
abbrev pub ones : ℕ → List ℕ
ones n = replicate n 1

pub length-ones : (n : ℕ) → length (ones n) ≡ n
length-ones zero = refl
length-ones (suc n) = ap suc (length-ones n)

pub ones_fit : (n : ℕ) → AllByRecursion (λ (w : ℕ). w ≡ 1) (ones n)
ones_fit zero = tt
ones_fit (suc n) = (refl, ones_fit n)

pub ones_pass : (n : ℕ) → list_all (λ (w : ℕ). ltb 0 w) (ones n) ≡ true
ones_pass zero = refl
ones_pass (suc n) = ones_pass n

pub ones_are : (n : ℕ) (weights : List ℕ) → length weights ≡ n → AllByRecursion (λ (w : ℕ). w ≡ 1) weights → ones n ≡ weights
ones_are zero [] e one = refl
ones_are zero (w ∷ more) e one = absurd cc
ones_are (suc n) [] e one = absurd cc
ones_are (suc n) (w ∷ more) e one = ap (λ (a : ℕ). a ∷ ones n) (sym one.0) ∙ ap (λ (b : List ℕ). w ∷ b) (ones_are n more (omega arith) one.1)

pub sum-ones : (weights : List ℕ) → AllByRecursion (λ (w : ℕ). w ≡ 1) weights → sum weights ≡ length weights
sum-ones [] one = refl
sum-ones (w ∷ more) one =
    let rest : sum more ≡ length more = sum-ones more one.1 in
    let first : w ≡ 1 = one.0 in
    let added : sum (w ∷ more) ≡ w + sum more = sum_by-cons (λ (x : ℕ). x) w more in
    omega arith

-- ---- numbers of four bytes

pub read_fits : (n : ℕ) (bytes : List ℕ) → IsBytes bytes → list_all (λ (w : ℕ). ltb 0 w) (map number (first_chunks 4 n bytes)) ≡ true
    → AllByRecursion (λ (w : ℕ). (0 < w) × (w < 2 ^ 32)) (map number (first_chunks 4 n bytes))
read_fits zero bytes fits h = tt
read_fits (suc n) bytes fits h =
    let test = and_parts (ltb 0 (number (take 4 bytes))) (list_all (λ (w : ℕ). ltb 0 w) (map number (first_chunks 4 n (drop 4 bytes)))) h in
    ((ltb-true 0 (number (take 4 bytes)) test.0, wide32.below (take 4 bytes) (IsBytes-take 4 bytes fits)), read_fits n (drop 4 bytes) (IsBytes-drop 4 bytes fits) test.1)

pub fit_pass : (weights : List ℕ) → AllByRecursion (λ (w : ℕ). (0 < w) × (w < 2 ^ 32)) weights → list_all (λ (w : ℕ). ltb 0 w) weights ≡ true
fit_pass [] fits = refl
fit_pass (w ∷ more) fits = and_from (ltb 0 w) (list_all (λ (w : ℕ). ltb 0 w) more) (lt-ltb 0 w fits.0.0) (fit_pass more fits.1)

pub back : (n : ℕ) (bytes : List ℕ) → IsBytes bytes → length bytes ≡ 4 * n → flat_map (to_be_bytes w32) (map number (first_chunks 4 n bytes)) ≡ bytes
back zero bytes fits len = sym (nil_from_length bytes len)
back (suc n) bytes fits len =
    let four : length (take 4 bytes) ≡ 4 = length-take-le 4 bytes (omega arith) in
    let rest : length (drop 4 bytes) ≡ 4 * n = omega (arith, length-drop 4 bytes) in
    flat_map-cons (to_be_bytes w32) (number (take 4 bytes)) (map number (first_chunks 4 n (drop 4 bytes)))
    ∙ ap (λ (t : List ℕ). t ++ flat_map (to_be_bytes w32) (map number (first_chunks 4 n (drop 4 bytes)))) (wide32.back (take 4 bytes) four (IsBytes-take 4 bytes fits))
    ∙ ap (λ (t : List ℕ). take 4 bytes ++ t) (back n (drop 4 bytes) (IsBytes-drop 4 bytes fits) rest)
    ∙ take-append-drop 4 bytes

pub again : (weights : List ℕ) → AllByRecursion (λ (w : ℕ). (0 < w) × (w < 2 ^ 32)) weights → map number (first_chunks 4 (length weights) (flat_map (to_be_bytes w32) weights)) ≡ weights
again [] fits = refl
again (w ∷ more) fits =
    let text : flat_map (to_be_bytes w32) (w ∷ more) ≡ to_be_bytes w32 w ++ flat_map (to_be_bytes w32) more = flat_map-cons (to_be_bytes w32) w more in
    let first : take 4 (flat_map (to_be_bytes w32) (w ∷ more)) ≡ to_be_bytes w32 w = ap (take 4) text ∙ take_at (to_be_bytes w32 w) (flat_map (to_be_bytes w32) more) 4 (wide32.len w) in
    let rest : drop 4 (flat_map (to_be_bytes w32) (w ∷ more)) ≡ flat_map (to_be_bytes w32) more = ap (drop 4) text ∙ drop_at (to_be_bytes w32 w) (flat_map (to_be_bytes w32) more) 4 (wide32.len w) in
    ap (λ (t : List ℕ). number t ∷ map number (first_chunks 4 (length more) (drop 4 (flat_map (to_be_bytes w32) (w ∷ more))))) first
    ∙ ap (λ (t : List ℕ). number (to_be_bytes w32 w) ∷ map number (first_chunks 4 (length more) t)) rest
    ∙ ap (λ (b : List ℕ). number (to_be_bytes w32 w) ∷ b) (again more fits.1)
    ∙ ap (λ (a : ℕ). a ∷ more) (wide32.again w fits.0.1)

pub length-four : (weights : List ℕ) → length (flat_map (to_be_bytes w32) weights) ≡ 4 * length weights
length-four [] = refl
length-four (w ∷ more) =
    let text : length (flat_map (to_be_bytes w32) (w ∷ more)) ≡ length (to_be_bytes w32 w ++ flat_map (to_be_bytes w32) more) = ap length (flat_map-cons (to_be_bytes w32) w more) in
    let both : length (to_be_bytes w32 w ++ flat_map (to_be_bytes w32) more) ≡ length (to_be_bytes w32 w) + length (flat_map (to_be_bytes w32) more) = length-append (to_be_bytes w32 w) (flat_map (to_be_bytes w32) more) in
    let first : length (to_be_bytes w32 w) ≡ 4 = wide32.len w in
    let rest : length (flat_map (to_be_bytes w32) more) ≡ 4 * length more = length-four more in
    omega arith

-- ---- sums

pub sum-many : (version : Version) (weights : List ℕ) → AllByRecursion (IsWeight version) weights → length weights ≤ sum weights
sum-many version [] fits = omega arith
sum-many version.One (w ∷ more) fits =
    let rest : length more ≤ sum more = sum-many version.One more fits.1 in
    let first : w ≡ 1 = fits.0 in
    let added : sum (w ∷ more) ≡ w + sum more = sum_by-cons (λ (x : ℕ). x) w more in
    omega arith
sum-many version.Two (w ∷ more) fits =
    let rest : length more ≤ sum more = sum-many version.Two more fits.1 in
    let first : 0 < w = fits.0.0 in
    let added : sum (w ∷ more) ≡ w + sum more = sum_by-cons (λ (x : ℕ). x) w more in
    omega arith

pub sum-few : (version : Version) (weights : List ℕ) → AllByRecursion (IsWeight version) weights → sum weights ≤ length weights * 4294967295
sum-few version [] fits = omega arith
sum-few version.One (w ∷ more) fits =
    let rest : sum more ≤ length more * 4294967295 = sum-few version.One more fits.1 in
    let first : w ≡ 1 = fits.0 in
    let added : sum (w ∷ more) ≡ w + sum more = sum_by-cons (λ (x : ℕ). x) w more in
    omega arith
sum-few version.Two (w ∷ more) fits =
    let rest : sum more ≤ length more * 4294967295 = sum-few version.Two more fits.1 in
    let first : w < 2 ^ 32 = fits.0.1 in
    let added : sum (w ∷ more) ≡ w + sum more = sum_by-cons (λ (x : ℕ). x) w more in
    omega arith
