-- Ascending ids, and the index of one of them.
use Rattle.std.proofs.Common.{◌≡◌, ℕ, zero, suc, ◌+◌, ◌<◌, ◌≤◌, ◌≢◌, Bool, true, false, cond, not, eqb, ltb, List, [], ◌∷◌, length, get_or, Option, Some, None, Result, Ok, Err, IsTrue, IfSome, refl, sym, ap, subst, inl, inr, arith}
use Rattle.std.specs.List.{position, position_or_len}
use Rattle.std.specs.List.Sorted.{IsSearchInRange, IsBinarySearchResult, IsNonDecreasingBy}
use Rattle.std.specs.Ordering.{nat_cmp, ordering_index}
use Rattle.std.specs.Result.{result_ok}
use Rattle.std.proofs.lemmas.Bool.{cases_lt, eq-eqb, ne_eqb}
use Rattle.std.proofs.lemmas.Cmp.{ranked}
use Rattle.std.proofs.lemmas.List.Sorted.{IsNonDecreasingBy-from_default}
use Rattle.std.proofs.lemmas.List.Sums.{position_or_len_is}
use Rattle.std.proofs.lemmas.Bool.Decides.{nat_tests}
use Rattle.bk_base.specs.Numbers.{is_ascending}
use Rattle.bk_rules.specs.private.Slots.{index_or_len}
use Rattle.bk_rules.proofs.RowLemmas.{and_left, and_right}

-- ---- ascending ids

abbrev pub Rises : List ℕ → Type 0
Rises ids = IsTrue (is_ascending ids)

-- the ids after the first ascend
pub rises_tail : (i : ℕ) (ids : List ℕ) → Rises (i ∷ ids) → Rises ids
rises_tail i [] up = refl
rises_tail i (j ∷ more) up = and_right (ltb i j) _ up

-- and are above the first
pub rises_head : (i : ℕ) (ids : List ℕ) → Rises (i ∷ ids) → (k : ℕ) → k < length ids → i < get_or ids k 0
rises_head i [] up k low = absurd (omega arith)
rises_head i (j ∷ more) up zero low = let first = and_left (ltb i j) _ up in grind (arith, nat_tests)
rises_head i (j ∷ more) up (suc k) low =
    let first = and_left (ltb i j) _ up in
    let above : j < get_or more k 0 = rises_head j more (and_right (ltb i j) _ up) k (omega arith) in
    grind (arith, nat_tests)

-- ids rise with their indexes
pub rises_by_index : (ids : List ℕ) → Rises ids → (i j : ℕ) → i < j → j < length ids → get_or ids i 0 < get_or ids j 0
rises_by_index [] up i j lt low = absurd (omega arith)
rises_by_index (n ∷ ids) up i zero lt low = absurd (omega arith)
rises_by_index (n ∷ ids) up zero (suc j) lt low = rises_head n ids up j (omega arith)
rises_by_index (n ∷ ids) up (suc i) (suc j) lt low = rises_by_index ids (rises_tail n ids up) i j (omega arith) (omega arith)

-- ---- an id that is at an index, or nowhere

-- the first index of an id is the one where it is
pub first_is : (ids : List ℕ) → Rises ids → (id k : ℕ) → k < length ids → get_or ids k 0 ≡ id → index_or_len ids id ≡ k
first_is ids up id k low here =
    position_or_len_is (λ (i : ℕ). eqb i id) ids k 0 (omega arith)
    (λ j lt. ne_eqb _ _ (λ same. let rise = rises_by_index ids up j k lt low in omega arith))
    (λ _. eq-eqb _ _ here)

pub stands_at : (ids : List ℕ) → Rises ids → (id k : ℕ) → k < length ids → get_or ids k 0 ≡ id → Some k ≡ position (λ (i : ℕ). eqb i id) ids
stands_at ids up id k low here =
    let first : position_or_len (λ (i : ℕ). eqb i id) ids ≡ k = first_is ids up id k low here in
    let inside : ltb k (length ids) ≡ true = grind (arith, nat_tests) in
    rw (first, inside) refl

pub stands_nowhere : (ids : List ℕ) (id : ℕ) → ((k : ℕ) → k < length ids → get_or ids k 0 ≢ id) → None ≡ position (λ (i : ℕ). eqb i id) ids
stands_nowhere ids id nowhere =
    let past : position_or_len (λ (i : ℕ). eqb i id) ids ≡ length ids = position_or_len_is (λ (i : ℕ). eqb i id) ids (length ids) 0 (omega arith) (λ j lt. ne_eqb _ _ (nowhere j lt)) (λ lt. absurd (omega arith)) in
    let outside : ltb (length ids) (length ids) ≡ false = grind (arith, nat_tests) in
    rw (past, outside) refl

-- an id that falls between two neighbours is nowhere
pub falls_nowhere : (ids : List ℕ) → Rises ids → (id c : ℕ) → c ≤ length ids → (c < length ids → id < get_or ids c 0) → ((b : ℕ) → b + 1 ≡ c → get_or ids b 0 < id) → index_or_len ids id ≡ length ids
falls_nowhere ids up id c within above below = position_or_len_is (λ (i : ℕ). eqb i id) ids (length ids) 0 (omega arith) (λ j lt. ne_eqb _ _ (apart j lt)) (λ lt. absurd (omega arith))
  where
    low : (n j : ℕ) → n ≡ c → j < n → j < length ids → get_or ids j 0 < id
    low zero j is lt inside = absurd (omega arith)
    low (suc b) j is lt inside = elim (cases_lt j b) [
      | inl before ↦ (let rise = rises_by_index ids up j b before (omega arith) in let last = below b (omega arith) in omega arith)
      | inr same ↦ (let eq : b ≡ j = omega arith in subst (λ (k : ℕ). get_or ids k 0 < id) eq (below b (omega arith)))
    ]

    high : (j : ℕ) → c ≤ j → j < length ids → id < get_or ids j 0
    high j le inside = elim (cases_lt c j) [
      | inl past ↦ (let rise = rises_by_index ids up c j past inside in let first = above (omega arith) in omega arith)
      | inr same ↦ (let eq : c ≡ j = omega arith in subst (λ (k : ℕ). id < get_or ids k 0) eq (above (omega arith)))
    ]

    apart : (j : ℕ) → j < length ids → get_or ids j 0 ≢ id
    apart j inside same = absurd (elim (cases_lt j c) [
      | inl before ↦ (let is_low = low c j refl before inside in omega arith)
      | inr past ↦ (let is_high = high j past inside in omega arith)
    ])

-- what a hint leads to
pub guessed : (ids : List ℕ) → Rises ids → (id : ℕ) (o : Option ℕ) → IfSome o (λ k. (k < length ids) × (get_or ids k 0 ≡ id)) → (k : ℕ) → o ≡ Some k → Some k ≡ position (λ (i : ℕ). eqb i id) ids
guessed ids up id o there k e = let at = subst (λ (x : Option ℕ). IfSome x (λ k. (k < length ids) × (get_or ids k 0 ≡ id))) e there in stands_at ids up id k at.0 at.1

-- the index, or the length
pub index_some : (ids : List ℕ) (id k : ℕ) → Some k ≡ position (λ (i : ℕ). eqb i id) ids → k ≡ index_or_len ids id
index_some ids id k e = by_test (ltb (index_or_len ids id) (length ids)) e
  where
    by_test : (b : Bool) → Some k ≡ cond b (Some (index_or_len ids id)) None → k ≡ index_or_len ids id
    by_test true e = cc
    by_test false e = absurd (cc)

pub index_none : (ids : List ℕ) (id : ℕ) → None ≡ position (λ (i : ℕ). eqb i id) ids → length ids ≡ index_or_len ids id
index_none ids id e = by_test (ltb (index_or_len ids id) (length ids)) refl e (at_most ids)
  where
    at_most : (xs : List ℕ) → index_or_len xs id ≤ length xs
    at_most [] = omega arith
    at_most (x ∷ xs) = by_first (eqb x id) (at_most xs)
      where
        by_first : (b : Bool) → index_or_len xs id ≤ length xs → cond {A = ℕ} (not b) (1 + index_or_len xs id) 0 ≤ suc (length xs)
        by_first true rest = omega arith
        by_first false rest = omega arith

    by_test : (b : Bool) → b ≡ ltb (index_or_len ids id) (length ids) → None ≡ cond b (Some (index_or_len ids id)) None → index_or_len ids id ≤ length ids → length ids ≡ index_or_len ids id
    by_test true is e most = absurd (cc)
    by_test false is e most = grind (arith, nat_tests)

-- ---- the search

module _ (ids : List ℕ) (up : Rises ids) (id : ℕ) where
  -- the comparisons with an id rise along the ids, as a binary search asks
  comparisons_rise : IsNonDecreasingBy (λ (i : ℕ). ordering_index (nat_cmp i id)) ids
  comparisons_rise = IsNonDecreasingBy-from_default (λ (i : ℕ). ordering_index (nat_cmp i id)) ids 0 (λ i j le low.
      let rise : get_or ids i 0 ≤ get_or ids j 0 = grind (arith, rises_by_index ids up i j, λ (same : i ≡ j). ap (λ k. get_or ids k 0) same) in
      grind (arith, nat_tests))

  -- a binary search ends at the id's index, or shows that it is nowhere
  pub searched : (r : Result ℕ ℕ) → IsSearchInRange r (length ids) → IsBinarySearchResult (λ (i : ℕ). nat_cmp i id) ids r → result_ok r ≡ position (λ (i : ℕ). eqb i id) ids
  searched (Ok at) low equal = stands_at ids up id at low (ranked _ id _ (sym (equal 0)))
  searched (Err at) low parted = stands_nowhere ids id (λ j below same. absurd (elim (cases_lt j at) [
    | inl lt ↦ omega (arith, ranked (get_or ids j 0) id _ (sym ((parted comparisons_rise).0 j 0 (omega arith) lt)))
    | inr ge ↦ omega (arith, ranked (get_or ids j 0) id _ (sym ((parted comparisons_rise).1 j 0 ge below)))
  ]))
