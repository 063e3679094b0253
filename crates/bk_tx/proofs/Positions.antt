-- The index that a search gives.
use Rattle.std.proofs.Common.{◌≡◌, ℕ, ◌+◌, ◌<◌, Bool, true, false, cond, not, ltb, List, [], ◌∷◌, length, map, get_or, Some, None, refl, ap, arith}
use Rattle.std.specs.List.{position, position_or_len}
use Rattle.std.proofs.lemmas.Bool.Decides.{nat_tests}
use Rattle.std.proofs.lemmas.List.{length-map}
use Rattle.std.proofs.lemmas.List.Sums.{position_or_len_is}

first-map : {X Y : Type 0} (f : X → Y) (p : Y → Bool) (xs : List X) → position_or_len p (map f xs) ≡ position_or_len (λ x. p (f x)) xs
first-map f p [] = refl
first-map f p (x ∷ xs) = ap (λ (n : ℕ). cond (not (p (f x))) (1 + n) 0) (first-map f p xs)

pub position-map : {X Y : Type 0} (f : X → Y) (p : Y → Bool) (xs : List X) → position p (map f xs) ≡ position (λ x. p (f x)) xs
position-map {X = X} {Y = Y} f p xs = rw (first-map f p xs, length-map {A = X} {B = Y}) refl

-- the first index that passes
pub position_here : {X : Type 0} (p : X → Bool) (xs : List X) (k : ℕ) (d : X) → k < length xs → ((j : ℕ) → j < k → p (get_or xs j d) ≡ false) → p (get_or xs k d) ≡ true → Some k ≡ position p xs
position_here p xs k d low before here =
    let first : position_or_len p xs ≡ k = position_or_len_is p xs k d (omega arith) before (λ _. here) in
    let inside : ltb k (length xs) ≡ true = grind (arith, nat_tests) in
    rw (first, inside) refl

pub position_none : {X : Type 0} (p : X → Bool) (xs : List X) (d : X) → ((j : ℕ) → j < length xs → p (get_or xs j d) ≡ false) → None ≡ position p xs
position_none p xs d before =
    let past : position_or_len p xs ≡ length xs = position_or_len_is p xs (length xs) d (omega arith) before (λ lt. absurd (omega arith)) in
    let outside : ltb (length xs) (length xs) ≡ false = grind (arith, nat_tests) in
    rw (past, outside) refl
