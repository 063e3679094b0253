-- Lists beside each other.
use Rattle.std.proofs.Common.{◌≡◌, List, [], ◌∷◌, map, subst}
use Rattle.std.specs.Prelude.{IfOk, Ok, Err, MatchResult, Contains}
use Rattle.std.specs.List.{AllZip, flat_map}
use Rattle.std.specs.declared.result.Result.{Result}
use Rattle.rayon.proofs.ListFacts.{AllZip-append}

-- what holds within each group holds of all
pub ungrouped : {X Y G V : Type 0} (R : X → Y → Type 0) (group : G → List X) (items : V → List Y) (gs : List G) (vs : List V) → AllZip (λ g v. AllZip R (group g) (items v)) gs vs → AllZip R (flat_map group gs) (flat_map items vs)
ungrouped R group items [] [] h = tt
ungrouped R group items [] (v ∷ vs) h = absurd h
ungrouped R group items (g ∷ gs) [] h = absurd h
ungrouped R group items (g ∷ gs) (v ∷ vs) h = AllZip-append R (group g) (flat_map group gs) (items v) (flat_map items vs) h.0 (ungrouped R group items gs vs h.1)

-- what holds of results that are all `Ok` holds of their values
values : {X Y E : Type 0} (R : X → Result Y E → Type 0) (S : X → Y → Type 0) → ((x : X) (y : Y) → R x (Ok y) → S x y) → (xs : List X) (ys : List Y) → AllZip R xs (map Ok ys) → AllZip S xs ys
values R S keeps [] [] h = h
values R S keeps [] (y ∷ ys) h = absurd h
values R S keeps (x ∷ xs) [] h = absurd h
values R S keeps (x ∷ xs) (y ∷ ys) h = (keeps x y h.0, values R S keeps xs ys h.1)

pub gathered : {X Y E V : Type 0} (items : V → List Y) (R : X → Result Y E → Type 0) (S : X → Y → Type 0) → ((x : X) (y : Y) → R x (Ok y) → S x y)
    → (xs : List X) (us : List (Result Y E)) (r : Result V E) → AllZip R xs us
    → MatchResult r (λ v. (ys : List Y) × (us ≡ map Ok ys) × (items v ≡ ys)) (λ e. Contains us (Err e)) → IfOk r (λ v. AllZip S xs (items v))
gathered items R S keeps xs us (Ok v) zipped (ys, is, of) = rw of (values R S keeps xs ys (subst (AllZip R xs) is zipped))
gathered items R S keeps xs us (Err e) zipped h = tt
