-- A test of all neighbours is the test that their numbers ascend.
use Rattle.std.proofs.Common.{◌≡◌, ℕ, zero, suc, ◌<◌, Bool, true, false, ltb, List, [], ◌∷◌, length, get_or, map, refl, sym, subst, add-one, arith}
use Rattle.std.specs.List.{IsAllAdjacentAnswer}
use Rattle.std.proofs.lemmas.Bool.{and_from, and_left, and_right}
use Rattle.bk_base.specs.Numbers.{is_ascending}

ascends : {A : Type 0} (key : A → ℕ) (xs : List A) → ((k : ℕ) (d : A) → suc k < length xs → true ≡ ltb (key (get_or xs k d)) (key (get_or xs (suc k) d))) → true ≡ is_ascending (map key xs)
ascends key [] h = refl
ascends key (x ∷ []) h = refl
ascends key (x ∷ y ∷ xs) h = sym (and_from (ltb (key x) (key y)) (is_ascending (map key (y ∷ xs))) (sym (h 0 x (omega arith))) (sym (ascends key (y ∷ xs) (λ k d lt. h (suc k) d (omega arith)))))

stops : {A : Type 0} (key : A → ℕ) (xs : List A) (k : ℕ) → suc k < length xs → ((d : A) → false ≡ ltb (key (get_or xs k d)) (key (get_or xs (suc k) d))) → false ≡ is_ascending (map key xs)
stops key [] k lt h = absurd (omega arith)
stops key (x ∷ []) k lt h = absurd (omega arith)
stops key (x ∷ y ∷ xs) zero lt h = sym (and_left (ltb (key x) (key y)) (is_ascending (map key (y ∷ xs))) (sym (h x)))
stops key (x ∷ y ∷ xs) (suc k) lt h = sym (and_right (ltb (key x) (key y)) (is_ascending (map key (y ∷ xs))) (sym (stops key (y ∷ xs) k (omega arith) h)))

pub ascending_answer : {A : Type 0} (key : A → ℕ) (xs : List A) (r : Bool) → IsAllAdjacentAnswer (λ (x y : A) b. b ≡ ltb (key x) (key y)) xs r → r ≡ is_ascending (map key xs)
ascending_answer {A = A} key xs true h = ascends key xs (λ (k : ℕ) (d : A) lt. subst (λ (j : ℕ). true ≡ ltb (key (get_or xs k d)) (key (get_or xs j d))) (add-one k) (h k d (omega arith)))
ascending_answer {A = A} key xs false h = stops key xs h.0 (omega (arith, h.1)) (λ (d : A). subst (λ (j : ℕ). false ≡ ltb (key (get_or xs h.0 d)) (key (get_or xs j d))) (add-one h.0) (h.2 d))
