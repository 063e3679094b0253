-- Ids beside modes, as a list of declared accounts.
use Rattle.std.proofs.Common.{◌≡◌, ℕ, zero, suc, ◌+◌, ◌<◌, ◌≤◌, ◌^◌, Bool, true, false, ◌&&◌, eqb, List, [], ◌∷◌, ◌++◌, length, get_or, set, take, Some, None, refl, sym, ap, ◌∙◌, arith}
use Rattle.std.specs.List.{position}
use Rattle.std.proofs.lemmas.Bool.{and_from, eq-eqb}
use Rattle.std.proofs.lemmas.List.{length-take-le, get_or-take, take_more_set, take-map}
use Rattle.bk_tx.specs.declared.declared.Declared.{Declared}
use Rattle.bk_tx.specs.Access.{declared_ids, no_declared, IdsFit}
use Rattle.bk_tx.specs.private.Paired.{paired}
use Rattle.bk_tx.proofs.Positions.{position_here, position_none}

pub length-paired : (ids : List ℕ) (modes : List Bool) → length ids ≡ length modes → length (paired ids modes) ≡ length ids
length-paired [] modes e = refl
length-paired (id ∷ ids) [] e = absurd (omega arith)
length-paired (id ∷ ids) (m ∷ modes) e = ap suc (length-paired ids modes (omega arith))

ids-paired : (ids : List ℕ) (modes : List Bool) → length ids ≡ length modes → declared_ids (paired ids modes) ≡ ids
ids-paired [] modes e = refl
ids-paired (id ∷ ids) [] e = absurd (omega arith)
ids-paired (id ∷ ids) (m ∷ modes) e = ap (λ (xs : List ℕ). id ∷ xs) (ids-paired ids modes (omega arith))

set-paired : (ids : List ℕ) (modes : List Bool) (k id : ℕ) (mode : Bool) → length ids ≡ length modes → paired (set ids k id) (set modes k mode) ≡ set (paired ids modes) k (record { id = id; writable = mode })
set-paired [] modes k id mode e = refl
set-paired (i ∷ ids) [] k id mode e = absurd (omega arith)
set-paired (i ∷ ids) (m ∷ modes) zero id mode e = refl
set-paired (i ∷ ids) (m ∷ modes) (suc k) id mode e = ap (λ (ds : List Declared). record { id = i; writable = m } ∷ ds) (set-paired ids modes k id mode (omega arith))

get-paired : (ids : List ℕ) (modes : List Bool) (k : ℕ) → length ids ≡ length modes → get_or (paired ids modes) k no_declared ≡ record { id = get_or ids k 0; writable = get_or modes k false }
get-paired [] [] k e = refl
get-paired [] (m ∷ modes) k e = absurd (omega arith)
get-paired (id ∷ ids) [] k e = absurd (omega arith)
get-paired (id ∷ ids) (m ∷ modes) zero e = refl
get-paired (id ∷ ids) (m ∷ modes) (suc k) e = get-paired ids modes k (omega arith)

-- ---- the first of eight

pub count_is : (n : ℕ) (ids : List ℕ) (modes : List Bool) (ds : List Declared) → length ids ≡ 8 → length modes ≡ 8 → n ≤ 8 → take n (paired ids modes) ≡ ds → n ≡ length ds
count_is n ids modes ds e0 e1 le view =
    let whole = length-paired ids modes (e0 ∙ sym e1) in
    let inside : n ≤ length (paired ids modes) = omega arith in
    sym (length-take-le n (paired ids modes) inside) ∙ ap length view

pub ids_are : (n : ℕ) (ids : List ℕ) (modes : List Bool) (ds : List Declared) → length ids ≡ 8 → length modes ≡ 8 → take n (paired ids modes) ≡ ds → take n ids ≡ declared_ids ds
ids_are n ids modes ds e0 e1 view =
    ap (take n) (sym (ids-paired ids modes (e0 ∙ sym e1))) ∙ take-map (λ (d : Declared). d.id) n (paired ids modes) ∙ ap declared_ids view

pub read_is : (n : ℕ) (ids : List ℕ) (modes : List Bool) (ds : List Declared) (k : ℕ) → length ids ≡ 8 → length modes ≡ 8 → take n (paired ids modes) ≡ ds → k < n → get_or ds k no_declared ≡ record { id = get_or ids k 0; writable = get_or modes k false }
read_is n ids modes ds k e0 e1 view low =
    ap (λ (xs : List Declared). get_or xs k no_declared) (sym view) ∙ get_or-take n (paired ids modes) k no_declared low ∙ get-paired ids modes k (e0 ∙ sym e1)

pub pushed : (n : ℕ) (ids : List ℕ) (modes : List Bool) (ds : List Declared) (id : ℕ) (mode : Bool) → length ids ≡ 8 → length modes ≡ 8 → n < 8 → take n (paired ids modes) ≡ ds → take (n + 1) (paired (set ids n id) (set modes n mode)) ≡ ds ++ record { id = id; writable = mode } ∷ []
pushed n ids modes ds id mode e0 e1 low view =
    let made : Declared = record { id = id; writable = mode } in
    let whole = length-paired ids modes (e0 ∙ sym e1) in
    let inside : n < length (paired ids modes) = omega arith in
    ap (take (n + 1)) (set-paired ids modes n id mode (e0 ∙ sym e1)) ∙ take_more_set (paired ids modes) n made inside ∙ ap (λ (xs : List Declared). xs ++ made ∷ []) view

-- ---- where an account is declared for writing

abbrev test : ℕ → Declared → Bool
test id d = d.writable && eqb d.id id

passes : (n : ℕ) (ids : List ℕ) (modes : List Bool) (ds : List Declared) (id k : ℕ) (b : Bool) → length ids ≡ 8 → length modes ≡ 8 → take n (paired ids modes) ≡ ds → k < n → (get_or modes k false && eqb (get_or ids k 0) id) ≡ b → test id (get_or ds k no_declared) ≡ b
passes n ids modes ds id k b e0 e1 view low here = ap (test id) (read_is n ids modes ds k e0 e1 view low) ∙ here

pub writable_here : (n : ℕ) (ids : List ℕ) (modes : List Bool) (ds : List Declared) (id k : ℕ) → length ids ≡ 8 → length modes ≡ 8 → n ≤ 8 → take n (paired ids modes) ≡ ds → k < n
    → ((j : ℕ) → j < k → (get_or modes j false && eqb (get_or ids j 0) id) ≡ false) → get_or modes k false ≡ true → get_or ids k 0 ≡ id → Some k ≡ position (test id) ds
writable_here n ids modes ds id k e0 e1 le view low before mode same =
    let count = count_is n ids modes ds e0 e1 le view in
    position_here (test id) ds k no_declared (omega arith) (λ j lt. passes n ids modes ds id j false e0 e1 view (omega arith) (before j lt)) (passes n ids modes ds id k true e0 e1 view low (and_from (get_or modes k false) (eqb (get_or ids k 0) id) mode (eq-eqb (get_or ids k 0) id same)))

pub writable_nowhere : (n : ℕ) (ids : List ℕ) (modes : List Bool) (ds : List Declared) (id : ℕ) → length ids ≡ 8 → length modes ≡ 8 → n ≤ 8 → take n (paired ids modes) ≡ ds
    → ((j : ℕ) → j < n → (get_or modes j false && eqb (get_or ids j 0) id) ≡ false) → None ≡ position (test id) ds
writable_nowhere n ids modes ds id e0 e1 le view before =
    let count = count_is n ids modes ds e0 e1 le view in
    position_none (test id) ds no_declared (λ j lt. passes n ids modes ds id j false e0 e1 view (omega arith) (before j (omega arith)))

-- ---- numbers of eight bytes

pub ids_fit : (ds : List Declared) → ((k : ℕ) → get_or (declared_ids ds) k 0 < 2 ^ 64) → IdsFit ds
ids_fit [] fits = tt
ids_fit (d ∷ ds) fits = (fits 0, ids_fit ds (λ k. fits (suc k)))
