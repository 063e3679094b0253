-- What a list contains.
use Rattle.std.proofs.Common.{◌≡◌, zero, suc, ◌⊎◌, inl, inr, List, [], ◌∷◌, map, arith}
use Rattle.std.specs.List.{Contains}
use Rattle.std.proofs.lemmas.List.Elements.{Contains-get_or, Contains-append_right}

pub none_in_nil : {X : Type 0} (x : X) → Contains [] x → ⊥
none_in_nil x h = omega (arith, h.1)

pub contains_cases : {X : Type 0} (x : X) (xs : List X) (y : X) → Contains (x ∷ xs) y → (x ≡ y) ⊎ Contains xs y
contains_cases x xs y (zero, low, e) = inl e
contains_cases x xs y (suc k, low, e) = inr (k, omega arith, e)

pub contains_first : {X : Type 0} (x : X) (xs : List X) → Contains (x ∷ xs) x
contains_first x xs = Contains-get_or (x ∷ xs) 0 x (omega arith)

pub contains_later : {X : Type 0} (x : X) (xs : List X) (y : X) → Contains xs y → Contains (x ∷ xs) y
contains_later x xs y h = Contains-append_right (x ∷ []) xs y h

pub from_map : {X Y : Type 0} (f : X → Y) (xs : List X) (y : Y) → Contains (map f xs) y → (x : X) × Contains xs x × (f x ≡ y)
from_map f [] y (k, low, e) = absurd (omega arith)
from_map f (x ∷ xs) y (zero, low, e) = (x, Contains-get_or (x ∷ xs) 0 x (omega arith), e)
from_map f (x ∷ xs) y (suc k, low, e) =
    let later = from_map f xs y (k, omega arith, e) in
    (later.0, (suc later.1.0, omega (arith, later.1.1), later.1.2), later.2)

pub in_map : {X Y : Type 0} (f : X → Y) (xs : List X) (x : X) → Contains xs x → Contains (map f xs) (f x)
in_map f [] x h = absurd (none_in_nil x h)
in_map f (y ∷ ys) x (zero, low, e) = (0, omega arith, λ i. f (e i))
in_map f (y ∷ ys) x (suc k, low, e) = contains_later (f y) (map f ys) (f x) (in_map f ys x (k, omega arith, e))
