-- A text cut into pieces, one byte after another.
use Rattle.std.proofs.Common.{◌≡◌, ℕ, ◌+◌, ◌-◌, ◌<◌, ◌≤◌, ◌==◌, List, [], ◌∷◌, ◌++◌, length, get_or, take, drop, map, sym, ap, ◌∙◌, arith, if◌then◌else◌, append_assoc, length-drop}
use Rattle.std.proofs.lemmas.List.{at_drop_more, at_drop_all, take_more, get_or-drop, map_push, take_all}
use Rattle.std.proofs.lemmas.Bool.{eq-eqb, ne_eqb}
use Rattle.bk_script.specs.Words.{pieces_after}

-- a front with the next byte
front_more : (text : List ℕ) (start end : ℕ) → start ≤ end → end < length text
    → take (end - start) (drop start text) ++ get_or text end 0 ∷ [] ≡ take (end + 1 - start) (drop start text)
front_more text start end h l =
    let at : end - start < length (drop start text) = omega (arith, length-drop start text) in
    let more = take_more (drop start text) (end - start) 0 at in
    let place : start + (end - start) ≡ end = omega arith in
    let same : get_or (drop start text) (end - start) 0 ≡ get_or text end 0 = get_or-drop start text (end - start) 0 ∙ ap (λ k. get_or text k 0) place in
    let long : end - start + 1 ≡ end + 1 - start = omega arith in
    ap (λ x. take (end - start) (drop start text) ++ x ∷ []) (sym same) ∙ sym more ∙ ap (λ k. take k (drop start text)) long

-- the byte at `end` ends a piece or belongs to it
pub piece_step : (sep : ℕ) (text : List ℕ) (start end : ℕ) → start ≤ end → end < length text
    → pieces_after sep (take (end - start) (drop start text)) (drop end text)
    ≡ (if get_or text end 0 == sep then take (end - start) (drop start text) ∷ pieces_after sep [] (drop (end + 1) text)
    else pieces_after sep (take (end + 1 - start) (drop start text)) (drop (end + 1) text))
unfolding pieces_after
piece_step sep text start end h l =
    at_drop_more (pieces_after sep (take (end - start) (drop start text))) text end 0 l
    ∙ ap (λ f. if get_or text end 0 == sep then take (end - start) (drop start text) ∷ pieces_after sep [] (drop (end + 1) text) else pieces_after sep f (drop (end + 1) text)) (front_more text start end h l)

-- one piece more is found
pub piece_found : {X : Type 0} (f : X → List ℕ) (xs : List X) (x : X) (more : List (List ℕ)) → map f (xs ++ x ∷ []) ++ more ≡ map f xs ++ (f x ∷ more)
piece_found f xs x more = ap (λ l. l ++ more) (map_push f xs x) ∙ append_assoc (map f xs) (f x ∷ []) more

-- the piece that ends here is found, and the next begins after the separator
pub ended : {X : Type 0} (f : X → List ℕ) (xs ys : List X) (x : X) (sep : ℕ) (text : List ℕ) (start end : ℕ) → start ≤ end → end < length text
    → get_or text end 0 ≡ sep → f x ≡ take (end - start) (drop start text) → ys ≡ xs ++ x ∷ []
    → map f xs ++ pieces_after sep (take (end - start) (drop start text)) (drop end text) ≡ pieces_after sep [] text
    → map f ys ++ pieces_after sep (take (end + 1 - (end + 1)) (drop (end + 1) text)) (drop (end + 1) text) ≡ pieces_after sep [] text
ended f xs ys x sep text start end h l e is items inv =
    let more = pieces_after sep [] (drop (end + 1) text) in
    let front = take (end - start) (drop start text) in
    let longer = take (end + 1 - start) (drop start text) in
    let none : end + 1 - (end + 1) ≡ 0 = omega arith in
    let test = eq-eqb (get_or text end 0) sep e in
    let step : pieces_after sep front (drop end text) ≡ front ∷ more =
    piece_step sep text start end h l ∙ ap (λ b. if b then front ∷ more else pieces_after sep longer (drop (end + 1) text)) test in
    ap (λ found. map f found ++ pieces_after sep (take (end + 1 - (end + 1)) (drop (end + 1) text)) (drop (end + 1) text)) items
    ∙ ap (λ k. map f (xs ++ x ∷ []) ++ pieces_after sep (take k (drop (end + 1) text)) (drop (end + 1) text)) none
    ∙ piece_found f xs x more
    ∙ ap (λ p. map f xs ++ (p ∷ more)) is
    ∙ ap (λ q. map f xs ++ q) (sym step)
    ∙ inv

-- the piece goes on
pub goes_on : {all : List (List ℕ)} (before : List (List ℕ)) (sep : ℕ) (text : List ℕ) (start end : ℕ) → start ≤ end → end < length text
    → (get_or text end 0 ≡ sep → ⊥)
    → before ++ pieces_after sep (take (end - start) (drop start text)) (drop end text) ≡ all
    → before ++ pieces_after sep (take (end + 1 - start) (drop start text)) (drop (end + 1) text) ≡ all
goes_on before sep text start end h l e inv =
    let more = pieces_after sep [] (drop (end + 1) text) in
    let front = take (end - start) (drop start text) in
    let longer = take (end + 1 - start) (drop start text) in
    let test = ne_eqb (get_or text end 0) sep e in
    let step : pieces_after sep front (drop end text) ≡ pieces_after sep longer (drop (end + 1) text) =
    piece_step sep text start end h l ∙ ap (λ b. if b then front ∷ more else pieces_after sep longer (drop (end + 1) text)) test in
    ap (λ q. before ++ q) (sym step) ∙ inv

-- the last piece ends with the text
pub last_piece : {X : Type 0} (f : X → List ℕ) (xs ys : List X) (x : X) (sep : ℕ) (text : List ℕ) (start end : ℕ) → start ≤ end → length text ≤ end
    → f x ≡ take (length text - start) (drop start text) → ys ≡ xs ++ x ∷ []
    → map f xs ++ pieces_after sep (take (end - start) (drop start text)) (drop end text) ≡ pieces_after sep [] text
    → map f ys ≡ pieces_after sep [] text
unfolding pieces_after
last_piece f xs ys x sep text start end h l is items inv =
    let whole : take (end - start) (drop start text) ≡ drop start text = take_all (end - start) (drop start text) (omega (arith, length-drop start text)) in
    let rest : take (length text - start) (drop start text) ≡ drop start text = take_all (length text - start) (drop start text) (omega (arith, length-drop start text)) in
    let front = take (end - start) (drop start text) in
    let past : pieces_after sep front (drop end text) ≡ front ∷ [] = at_drop_all (pieces_after sep front) text end l in
    ap (map f) items ∙ map_push f xs x ∙ ap (λ p. map f xs ++ p ∷ []) (is ∙ rest ∙ sym whole) ∙ ap (λ q. map f xs ++ q) (sym past) ∙ inv
