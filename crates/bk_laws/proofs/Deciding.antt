-- What can be decided of lists.
use Rattle.std.proofs.Common.{◌≡◌, ◌≢◌, ◌⊎◌, ℕ, ◌<◌, Bool, true, false, IsTrue, List, [], ◌∷◌, refl, sym, subst, inl, inr, ⊎_elim, arith}
use Rattle.std.specs.List.{Contains}
use Rattle.std.proofs.lemmas.Bool.{cases_eq, cases_lt}
use Rattle.bk_cert.proofs.Lists.{none_in_nil, contains_cases, contains_first, contains_later}

-- it holds or it does not
abbrev pub Decided : Type 0 → Type 0
Decided P = P ⊎ (P → ⊥)

pub decided_both : (P Q : Type 0) → Decided P → Decided Q → Decided (P × Q)
decided_both P Q (inl p) (inl q) = inl (p, q)
decided_both P Q (inl p) (inr n) = inr (λ h. n h.1)
decided_both P Q (inr n) d = inr (λ h. n h.0)

pub decided_three : (P Q R : Type 0) → Decided P → Decided Q → Decided R → Decided (P × Q × R)
decided_three P Q R (inl p) (inl q) (inl r) = inl (p, q, r)
decided_three P Q R (inl p) (inl q) (inr n) = inr (λ h. n h.2)
decided_three P Q R (inl p) (inr n) d = inr (λ h. n h.1)
decided_three P Q R (inr n) d e = inr (λ h. n h.0)

pub decided_if : (P Q : Type 0) → Decided P → Decided Q → Decided (P → Q)
decided_if P Q d (inl q) = inl (λ p. q)
decided_if P Q (inl p) (inr n) = inr (λ h. n (h p))
decided_if P Q (inr n) (inr m) = inl (λ p. absurd (n p))

pub decided_not : (P : Type 0) → Decided P → Decided (P → ⊥)
decided_not P (inl p) = inr (λ n. n p)
decided_not P (inr n) = inl n

-- the same in other words
pub decided_as : (P Q : Type 0) → (P → Q) → (Q → P) → Decided P → Decided Q
decided_as P Q there back (inl p) = inl (there p)
decided_as P Q there back (inr n) = inr (λ q. n (back q))

module _ {X : Type 0} (P : X → Type 0) where
  -- an element of the list has it
  abbrev pub AnyIn : List X → Type 0
  AnyIn xs = (x : X) × Contains xs x × P x

  -- each element of the list has it
  abbrev pub EachIn : List X → Type 0
  EachIn xs = (x : X) → Contains xs x → P x

  pub decided_among : (xs : List X) → ((x : X) → Contains xs x → Decided (P x)) → Decided (AnyIn xs)
  decided_among [] d = inr (λ h. none_in_nil h.0 h.1)
  decided_among (x ∷ xs) d = ⊎_elim
      (λ (p : P x). inl (x, contains_first x xs, p))
      (λ (n : P x → ⊥). ⊎_elim
      (λ (h : AnyIn xs). inl (h.0, contains_later x xs h.0 h.1, h.2))
      (λ (m : AnyIn xs → ⊥). inr (λ (h : AnyIn (x ∷ xs)). ⊎_elim (λ (e : x ≡ h.0). n (subst P (sym e) h.2)) (λ (later : Contains xs h.0). m (h.0, later, h.2)) (contains_cases x xs h.0 h.1)))
      (decided_among xs (λ y t. d y (contains_later x xs y t))))
      (d x (contains_first x xs))

  pub decided_any : ((x : X) → Decided (P x)) → (xs : List X) → Decided (AnyIn xs)
  decided_any d xs = decided_among xs (λ x t. d x)

  pub decided_each : ((x : X) → Decided (P x)) → (xs : List X) → Decided (EachIn xs)
  decided_each d [] = inl (λ x h. absurd (none_in_nil x h))
  decided_each d (x ∷ xs) = ⊎_elim
      (λ (p : P x). ⊎_elim
      (λ (h : EachIn xs). inl (λ y t. ⊎_elim (λ (e : x ≡ y). subst P e p) (λ (later : Contains xs y). h y later) (contains_cases x xs y t)))
      (λ (m : EachIn xs → ⊥). inr (λ (h : EachIn (x ∷ xs)). m (λ y t. h y (contains_later x xs y t))))
      (decided_each d xs))
      (λ (n : P x → ⊥). inr (λ (h : EachIn (x ∷ xs)). n (h x (contains_first x xs))))
      (d x)

-- equality of the elements decides what a list contains
pub decided_contains : {X : Type 0} → ((x y : X) → Decided (x ≡ y)) → (xs : List X) (y : X) → Decided (Contains xs y)
decided_contains same [] y = inr (λ h. none_in_nil y h)
decided_contains same (x ∷ xs) y = ⊎_elim
    (λ (e : x ≡ y). inl (subst (Contains (x ∷ xs)) e (contains_first x xs)))
    (λ (n : x ≢ y). ⊎_elim
    (λ (h : Contains xs y). inl (contains_later x xs y h))
    (λ (m : Contains xs y → ⊥). inr (λ (h : Contains (x ∷ xs) y). ⊎_elim (λ (e : x ≡ y). n e) (λ (t : Contains xs y). m t) (contains_cases x xs y h)))
    (decided_contains same xs y))
    (same x y)

-- ---- what a test decides

pub decided_by : (t : Bool) (P : Type 0) → (t ≡ true → P) → (P → t ≡ true) → Decided P
decided_by true P there back = inl (there refl)
decided_by false P there back = inr (λ p. let e : (let f : Bool = false in f) ≡ true = back p in absurd cc)

pub decided_test : (t : Bool) → Decided (IsTrue t)
decided_test true = inl refl
decided_test false = inr (λ h. absurd cc)

pub decided_below : (x y : ℕ) → Decided (x < y)
decided_below x y = ⊎_elim (λ l. inl l) (λ h. inr (λ l. omega arith)) (cases_lt x y)

pub same_number : (x y : ℕ) → Decided (x ≡ y)
same_number = cases_eq
