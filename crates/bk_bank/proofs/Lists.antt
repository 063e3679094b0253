-- Lists by index, and lists of numbers that only grow.
use Rattle.std.proofs.Common.{◌≡◌, ◌≢◌, ◌⊎◌, inl, inr, ⊎_elim, ℕ, zero, suc, ◌<◌, List, [], ◌∷◌, ◌++◌, length, get_or, set, sym, refl, ap, subst, arith}
use mathlib.Core.Option.{some, some-ne-none, some-injective}
use lib.ListN.{get_elem?}
use Rattle.atomic_table.proofs.Lists.{at_set}
use Rattle.bk_steps.specs.Course.{Has}

module _ {A : Type 0} where
  pub elem_inside : (l : List A) (i : ℕ) (a : A) → get_elem? l i ≡ some a → i < length l
  elem_inside [] i a e = absurd (some-ne-none a (sym e))
  elem_inside (x ∷ xs) zero a e = omega arith
  elem_inside (x ∷ xs) (suc i) a e = let h = elem_inside xs i a e in omega arith

  -- an element of a list with one more is an old one or that one
  pub at_end : (l : List A) (a b : A) (j : ℕ) → get_elem? (l ++ a ∷ []) j ≡ some b
      → (get_elem? l j ≡ some b) ⊎ ((j ≡ length l) × (a ≡ b))
  at_end [] a b zero e = inr (refl, some-injective a b e)
  at_end [] a b (suc j) e = absurd (some-ne-none b (sym e))
  at_end (x ∷ xs) a b zero e = inl e
  at_end (x ∷ xs) a b (suc j) e = ⊎_elim (λ h. inl h) (λ t. inr (ap suc t.0, t.1)) (at_end xs a b j e)

  pub sole : (a b : A) (j : ℕ) → get_elem? (a ∷ []) j ≡ some b → a ≡ b
  sole a b zero e = some-injective a b e
  sole a b (suc j) e = absurd (some-ne-none b (sym e))

  -- what holds of each element holds after one was changed
  pub each_stays : (K : ℕ → A → Type 0) (l : List A) (i : ℕ) (a : A) → K i a
      → ((j : ℕ) (b : A) → j ≢ i → get_elem? l j ≡ some b → K j b)
      → (j : ℕ) (b : A) → get_elem? (set l i a) j ≡ some b → K j b
  each_stays K l i a mine others j b e = ⊎_elim
      (λ (t : (j ≡ i) × (a ≡ b)). subst (λ (x : ℕ × A). K x.0 x.1) (λ k. (sym t.0 k, t.1 k)) mine)
      (λ (t : (j ≢ i) × (get_elem? l j ≡ some b)). others j b t.0 t.1) (at_set l i j a b e)

pub elem_get : (l : List ℕ) (i a : ℕ) → get_elem? l i ≡ some a → a ≡ get_or l i 0
elem_get [] i a e = absurd (some-ne-none a (sym e))
elem_get (x ∷ xs) zero a e = sym (some-injective x a e)
elem_get (x ∷ xs) (suc i) a e = elem_get xs i a e

pub has_left : (xs ys : List ℕ) (q : ℕ) → Has xs q → Has (xs ++ ys) q
has_left [] ys q h = absurd h
has_left (x ∷ xs) ys q h = ⊎_elim (λ e. inl e) (λ r. inr (has_left xs ys q r)) h

pub has_right : (xs ys : List ℕ) (q : ℕ) → Has ys q → Has (xs ++ ys) q
has_right [] ys q h = h
has_right (x ∷ xs) ys q h = inr (has_right xs ys q h)
