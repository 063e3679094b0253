-- Pieces of equal length.
use Rattle.std.proofs.Common.{◌≡◌, ℕ, zero, suc, ◌+◌, ◌*◌, ◌≤◌, List, [], ◌∷◌, ◌++◌, append_assoc, length, take, drop, refl, sym, ap, ◌∙◌, arith}
use Rattle.std.specs.List.{AllByRecursion, concat}
use Rattle.std.specs.Simd.{first_chunks}
use Rattle.std.proofs.lemmas.List.{append-nil, length-append, length-drop, length-take-le, take-append-drop, take_at, drop_at, nil_from_length}

-- each of these has n elements
abbrev pub Sized : ℕ → List (List ℕ) → Type 0
Sized n pieces = AllByRecursion (λ piece. length piece ≡ n) pieces

pub length-pieces : (n k : ℕ) (bytes : List ℕ) → length (first_chunks n k bytes) ≡ k
length-pieces n zero bytes = refl
length-pieces n (suc k) bytes = ap suc (length-pieces n k (drop n bytes))

rest_long : (n k : ℕ) (bytes : List ℕ) → length bytes ≡ n * suc k → length (drop n bytes) ≡ n * k
rest_long n k bytes h = omega (arith, length-drop n bytes)

first_long : (n k : ℕ) (bytes : List ℕ) → length bytes ≡ n * suc k → length (take n bytes) ≡ n
first_long n k bytes h = length-take-le n bytes (omega arith)

pub sized-pieces : (n k : ℕ) (bytes : List ℕ) → length bytes ≡ n * k → Sized n (first_chunks n k bytes)
sized-pieces n zero bytes h = tt
sized-pieces n (suc k) bytes h = (first_long n k bytes h, sized-pieces n k (drop n bytes) (rest_long n k bytes h))

pub concat-pieces : (n k : ℕ) (bytes : List ℕ) → length bytes ≡ n * k → concat (first_chunks n k bytes) ≡ bytes
concat-pieces n zero bytes h = sym (nil_from_length bytes (omega arith))
concat-pieces n (suc k) bytes h =
    ap (λ (t : List ℕ). take n bytes ++ t) (concat-pieces n k (drop n bytes) (rest_long n k bytes h)) ∙ take-append-drop n bytes

pub length-concat-sized : (n : ℕ) (pieces : List (List ℕ)) → Sized n pieces → length (concat pieces) ≡ n * length pieces
length-concat-sized n [] s = omega arith
length-concat-sized n (piece ∷ more) s =
    let rest : length (concat more) ≡ n * length more = length-concat-sized n more s.1 in
    let first : length piece ≡ n = s.0 in
    let both : length (piece ++ concat more) ≡ length piece + length (concat more) = length-append piece (concat more) in
    omega arith

-- the pieces of a text that begins with them
pub pieces-front : (n : ℕ) (pieces : List (List ℕ)) (rest : List ℕ) → Sized n pieces → first_chunks n (length pieces) (concat pieces ++ rest) ≡ pieces
pieces-front n [] rest s = refl
pieces-front n (piece ∷ more) rest s =
    let joined : (piece ++ concat more) ++ rest ≡ piece ++ (concat more ++ rest) = append_assoc piece (concat more) rest in
    let first : take n ((piece ++ concat more) ++ rest) ≡ piece = ap (take n) joined ∙ take_at piece (concat more ++ rest) n s.0 in
    let after : drop n ((piece ++ concat more) ++ rest) ≡ concat more ++ rest = ap (drop n) joined ∙ drop_at piece (concat more ++ rest) n s.0 in
    ap (λ (a : List ℕ). a ∷ first_chunks n (length more) (drop n ((piece ++ concat more) ++ rest))) first
    ∙ ap (λ (b : List ℕ). piece ∷ first_chunks n (length more) b) after
    ∙ ap (λ (b : List (List ℕ)). piece ∷ b) (pieces-front n more rest s.1)

-- the first pieces are those of the bytes that they take
pub pieces-take : (n k : ℕ) (bytes : List ℕ) → n * k ≤ length bytes → first_chunks n k (take (n * k) bytes) ≡ first_chunks n k bytes
pieces-take n k bytes h =
    let front : List ℕ = take (n * k) bytes in
    let long : length (take (n * k) bytes) ≡ n * k = length-take-le (n * k) bytes h in
    let sized : Sized n (first_chunks n k (take (n * k) bytes)) = sized-pieces n k (take (n * k) bytes) long in
    let whole : concat (first_chunks n k (take (n * k) bytes)) ≡ take (n * k) bytes = concat-pieces n k (take (n * k) bytes) long in
    let text : concat (first_chunks n k (take (n * k) bytes)) ++ drop (n * k) bytes ≡ bytes = ap (λ (t : List ℕ). t ++ drop (n * k) bytes) whole ∙ take-append-drop (n * k) bytes in
    let again : first_chunks n (length (first_chunks n k (take (n * k) bytes))) (concat (first_chunks n k (take (n * k) bytes)) ++ drop (n * k) bytes) ≡ first_chunks n k (take (n * k) bytes)
    = pieces-front n (first_chunks n k (take (n * k) bytes)) (drop (n * k) bytes) sized in
    sym again ∙ ap (first_chunks n (length (first_chunks n k (take (n * k) bytes)))) text ∙ ap (λ (j : ℕ). first_chunks n j bytes) (length-pieces n k (take (n * k) bytes))

pub pieces-concat : (n : ℕ) (pieces : List (List ℕ)) → Sized n pieces → first_chunks n (length pieces) (concat pieces) ≡ pieces
pieces-concat n pieces s = ap (first_chunks n (length pieces)) (sym (append-nil (concat pieces))) ∙ pieces-front n pieces [] s
