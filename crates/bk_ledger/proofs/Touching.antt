-- Indexes of slots.
use Rattle.std.proofs.Common.{◌≡◌, ℕ, zero, suc, ◌+◌, ◌<◌, ltb, List, [], ◌∷◌, ◌++◌, length, map, get_or, IsTrue, refl, sym, subst, ap, ap₂, ◌∙◌, add-one, arith}
use Rattle.std.specs.List.{range_with_len}
use Rattle.std.proofs.lemmas.Bool.{lt-ltb}
use Rattle.std.proofs.lemmas.List.FromFn.{length-range_with_len, get_or-range_with_len}
use Rattle.bk_base.specs.Numbers.{is_ascending}
use Rattle.bk_rules.specs.Part.{AreIndexes, ids_at}
use Rattle.bk_rules.proofs.RowLemmas.{and_both}

-- all of them
range_ascends : (a n : ℕ) → IsTrue (is_ascending (range_with_len a n))
range_ascends a zero = refl
range_ascends a (suc zero) = refl
range_ascends a (suc (suc n)) = and_both (ltb a (a + 1)) _ (lt-ltb a (a + 1) (omega arith)) (range_ascends (a + 1) (suc n))

pub range_indexes : (n : ℕ) → AreIndexes n (range_with_len 0 n)
range_indexes n = record {
  ascending = range_ascends 0 n;
  within = λ k low. (let inside : k < n = omega (arith, low, length-range_with_len 0 n) in let is = get_or-range_with_len 0 n k 0 inside in omega arith);
}

range_reads : (slots : List ℕ) (f : ℕ → ℕ) (a : ℕ) → ((k : ℕ) → k < length slots → f (a + k) ≡ get_or slots k 0) → map f (range_with_len a (length slots)) ≡ slots
range_reads [] f a reads = refl
range_reads (s ∷ slots) f a reads =
    ap₂ (λ (x : ℕ) (xs : List ℕ). x ∷ xs) (ap f (plain a) ∙ reads 0 (omega arith))
    (range_reads slots f (a + 1) (λ k low. ap f (shifted a k) ∙ reads (suc k) (omega arith)))
  where
    plain : (a : ℕ) → a ≡ a + 0
    plain a = omega arith

    shifted : (a k : ℕ) → a + 1 + k ≡ a + suc k
    shifted a k = omega arith

pub range_is_all : (slots : List ℕ) (n : ℕ) → length slots ≡ n → ids_at slots (range_with_len 0 n) ≡ slots
range_is_all slots n same = ap (λ (m : ℕ). map (λ (k : ℕ). get_or slots k 0) (range_with_len 0 m)) (sym same) ∙ range_reads slots (λ (k : ℕ). get_or slots k 0) 0 (λ k low. ap (λ (j : ℕ). get_or slots j 0) (zero_plus k))
  where
    zero_plus : (k : ℕ) → 0 + k ≡ k
    zero_plus k = omega arith

-- and one number more
range_next : (a n j : ℕ) → a + n ≡ j → range_with_len a (suc n) ≡ range_with_len a n ++ j ∷ []
range_next a zero j e = let first : a ≡ j = omega arith in ap (λ (k : ℕ). k ∷ []) first
range_next a (suc n) j e = ap (λ (xs : List ℕ). a ∷ xs) (range_next (a + 1) n j (omega arith))

pub range_more : (n : ℕ) → range_with_len 0 n ++ n ∷ [] ≡ range_with_len 0 (n + 1)
range_more n = sym (ap (range_with_len 0) (add-one n) ∙ range_next 0 n n (omega arith))

-- as a loop leaves them
pub counted_indexes : (n k : ℕ) (list : List ℕ) → n ≡ k → list ≡ range_with_len 0 k → AreIndexes n list
counted_indexes n k list same is = subst (λ (xs : List ℕ). AreIndexes n xs) (ap (range_with_len 0) same ∙ sym is) (range_indexes n)

pub counted_all : (n k : ℕ) (list : List ℕ) → n ≡ k → list ≡ range_with_len 0 k → (slots : List ℕ) → length slots ≡ n → ids_at slots list ≡ slots
counted_all n k list same is slots len = ap (ids_at slots) (is ∙ ap (range_with_len 0) (sym same)) ∙ range_is_all slots n len
