-- How many digests of held batches an order does not have.
use Rattle.std.proofs.Common.{◌≡◌, ℕ, suc, ◌+◌, Bool, true, false, cond, List, [], ◌∷◌, ◌++◌, length, refl, sym, ap, ◌∙◌, arith}
use Rattle.std.specs.Prelude.{not, ◌||◌, filter}
use Rattle.std.specs.Str.{bytes_eq}
use Rattle.std.specs.List.{Contains, list_any}
use Rattle.std.proofs.lemmas.Bool.{both_ways}
use Rattle.std.proofs.lemmas.Slice.Eq.{bytes_eq-Decides}
use Rattle.bk_cert.proofs.Lists.{contains_first, contains_later}
use Rattle.bk_flatten.specs.Batches.{once}

-- no digest is repeated
abbrev pub AreOnce : List (List ℕ) → Type 0
AreOnce [] = Unit {0}
AreOnce (d ∷ more) = (list_any (bytes_eq d) more ≡ false) × AreOnce more

-- a digest that differs
abbrev pub other_than : List ℕ → List ℕ → Bool
other_than x e = not (bytes_eq x e)

-- a digest that is not among these
abbrev pub outside : List (List ℕ) → List ℕ → Bool
outside ys d = not (list_any (bytes_eq d) ys)

-- ---- lists without repeats

first_false : (a b : Bool) → (a || b) ≡ false → a ≡ false
first_false true b e = absurd (both_ways true e refl)
first_false false b e = refl

second_false : (a b : Bool) → (a || b) ≡ false → b ≡ false
second_false true b e = absurd (both_ways true e refl)
second_false false b e = e

both_false : (a b : Bool) → a ≡ false → b ≡ false → (a || b) ≡ false
both_false a b e f = ap (λ (c : Bool). c || b) e ∙ f

gone : (x : List ℕ) (ys : List (List ℕ)) → list_any (bytes_eq x) (filter (other_than x) ys) ≡ false
gone x [] = refl
gone x (y ∷ ys) = by_test (bytes_eq x y) refl (gone x ys)
  where
    by_test : (b : Bool) → bytes_eq x y ≡ b → list_any (bytes_eq x) (filter (other_than x) ys) ≡ false
        → list_any (bytes_eq x) (cond (not b) (y ∷ filter (other_than x) ys) (filter (other_than x) ys)) ≡ false
    by_test true e rest = rest
    by_test false e rest = both_false (bytes_eq x y) (list_any (bytes_eq x) (filter (other_than x) ys)) e rest

-- what is not among some is not among those that pass a test
still_none : (p : List ℕ → Bool) (x : List ℕ) (ys : List (List ℕ)) → list_any (bytes_eq x) ys ≡ false → list_any (bytes_eq x) (filter p ys) ≡ false
still_none p x [] h = refl
still_none p x (y ∷ ys) h = by_test (p y) (still_none p x ys (second_false (bytes_eq x y) (list_any (bytes_eq x) ys) h))
  where
    by_test : (b : Bool) → list_any (bytes_eq x) (filter p ys) ≡ false → list_any (bytes_eq x) (cond b (y ∷ filter p ys) (filter p ys)) ≡ false
    by_test true rest = both_false (bytes_eq x y) (list_any (bytes_eq x) (filter p ys)) (first_false (bytes_eq x y) (list_any (bytes_eq x) ys) h) rest
    by_test false rest = rest

once_filtered : (p : List ℕ → Bool) (xs : List (List ℕ)) → AreOnce xs → AreOnce (filter p xs)
once_filtered p [] h = tt
once_filtered p (x ∷ xs) h = by_test (p x) (once_filtered p xs h.1)
  where
    by_test : (b : Bool) → AreOnce (filter p xs) → AreOnce (cond b (x ∷ filter p xs) (filter p xs))
    by_test true rest = (still_none p x xs h.0, rest)
    by_test false rest = rest

pub once_are_once : (xs : List (List ℕ)) → AreOnce (once xs)
once_are_once [] = tt
once_are_once (x ∷ xs) = (gone x (once xs), once_filtered (other_than x) (once xs) (once_are_once xs))

none_in_front : (p : List ℕ → Bool) (xs ys : List (List ℕ)) → list_any p (xs ++ ys) ≡ false → list_any p xs ≡ false
none_in_front p [] ys e = refl
none_in_front p (x ∷ xs) ys e =
    both_false (p x) (list_any p xs) (first_false (p x) (list_any p (xs ++ ys)) e) (none_in_front p xs ys (second_false (p x) (list_any p (xs ++ ys)) e))

pub once_front : (xs ys : List (List ℕ)) → AreOnce (xs ++ ys) → AreOnce xs
once_front [] ys h = tt
once_front (x ∷ xs) ys h = (none_in_front (bytes_eq x) xs ys h.0, once_front xs ys h.1)

-- ---- to leave one out

none_left_out : (x : List ℕ) (xs : List (List ℕ)) → list_any (bytes_eq x) xs ≡ false → filter (other_than x) xs ≡ xs
none_left_out x [] h = refl
none_left_out x (y ∷ ys) h = by_test (bytes_eq x y) refl (none_left_out x ys (second_false (bytes_eq x y) (list_any (bytes_eq x) ys) h))
  where
    by_test : (b : Bool) → bytes_eq x y ≡ b → filter (other_than x) ys ≡ ys → cond (not b) (y ∷ filter (other_than x) ys) (filter (other_than x) ys) ≡ y ∷ ys
    by_test true e rest = absurd (both_ways true (sym e ∙ first_false (bytes_eq x y) (list_any (bytes_eq x) ys) h) refl)
    by_test false e rest = ap (λ (zs : List (List ℕ)). y ∷ zs) rest

-- of a list without repeats
one_left_out : (x : List ℕ) (xs : List (List ℕ)) → AreOnce xs → list_any (bytes_eq x) xs ≡ true → length (filter (other_than x) xs) + 1 ≡ length xs
one_left_out x [] h e = absurd (both_ways true (sym e) refl)
one_left_out x (y ∷ ys) h e = by_test (bytes_eq x y) refl (λ there. one_left_out x ys h.1 there)
  where
    by_test : (b : Bool) → bytes_eq x y ≡ b → (list_any (bytes_eq x) ys ≡ true → length (filter (other_than x) ys) + 1 ≡ length ys)
        → length (cond (not b) (y ∷ filter (other_than x) ys) (filter (other_than x) ys)) + 1 ≡ suc (length ys)
    by_test true t rest =
        let same : x ≡ y = (bytes_eq-Decides x y).0 t in
        let all : filter (other_than x) ys ≡ ys = none_left_out x ys (ap (λ (z : List ℕ). list_any (bytes_eq z) ys) same ∙ h.0) in
        let n : length (filter (other_than x) ys) ≡ length ys = ap length all in
        omega (arith, n)
    by_test false t rest =
        let n = rest (sym (ap (λ (c : Bool). c || list_any (bytes_eq x) ys) t) ∙ e) in
        omega (arith, n)

turned : (x z : List ℕ) (a b : Bool) → bytes_eq x z ≡ a → bytes_eq z x ≡ b → a ≡ b
turned x z true true e f = refl
turned x z false false e f = refl
turned x z true false e f = absurd (let yes = (bytes_eq-Decides z x).1 (sym ((bytes_eq-Decides x z).0 e)) in both_ways true (sym yes ∙ f) refl)
turned x z false true e f = absurd (let yes = (bytes_eq-Decides x z).1 (sym ((bytes_eq-Decides z x).0 f)) in both_ways true (sym yes ∙ e) refl)

-- to leave out more is to leave out the others first
left_out_more : (x : List ℕ) (ys xs : List (List ℕ)) → filter (outside (x ∷ ys)) xs ≡ filter (other_than x) (filter (outside ys) xs)
left_out_more x ys [] = refl
left_out_more x ys (z ∷ zs) = by_tests (bytes_eq z x) (list_any (bytes_eq z) ys) refl (left_out_more x ys zs)
  where
    kept : List (List ℕ)
    kept = filter (other_than x) (filter (outside ys) zs)

    by_tests : (a b : Bool) → bytes_eq z x ≡ a → filter (outside (x ∷ ys)) zs ≡ kept
        → cond (not (a || b)) (z ∷ filter (outside (x ∷ ys)) zs) (filter (outside (x ∷ ys)) zs) ≡ filter (other_than x) (cond (not b) (z ∷ filter (outside ys) zs) (filter (outside ys) zs))
    by_tests true true e rest = rest
    by_tests true false e rest = rest ∙ sym (ap (λ (c : Bool). cond (not c) (z ∷ kept) kept) (turned x z (bytes_eq x z) (bytes_eq z x) refl refl ∙ e))
    by_tests false true e rest = rest
    by_tests false false e rest = ap (λ (us : List (List ℕ)). z ∷ us) rest
        ∙ sym (ap (λ (c : Bool). cond (not c) (z ∷ kept) kept) (turned x z (bytes_eq x z) (bytes_eq z x) refl refl ∙ e))

none_outside : (xs : List (List ℕ)) → filter (outside []) xs ≡ xs
none_outside [] = refl
none_outside (x ∷ xs) = ap (λ (ys : List (List ℕ)). x ∷ ys) (none_outside xs)

-- what passes is still there
still_there : (x : List ℕ) (ys xs : List (List ℕ)) → list_any (bytes_eq x) ys ≡ false → list_any (bytes_eq x) xs ≡ true → list_any (bytes_eq x) (filter (outside ys) xs) ≡ true
still_there x ys [] h e = e
still_there x ys (z ∷ zs) h e = by_tests (bytes_eq x z) (list_any (bytes_eq z) ys) refl refl (λ there. still_there x ys zs h there)
  where
    left : List (List ℕ)
    left = filter (outside ys) zs

    by_tests : (a b : Bool) → bytes_eq x z ≡ a → list_any (bytes_eq z) ys ≡ b → (list_any (bytes_eq x) zs ≡ true → list_any (bytes_eq x) left ≡ true)
        → list_any (bytes_eq x) (cond (not b) (z ∷ left) left) ≡ true
    by_tests true true s t rest = absurd (both_ways true (sym t ∙ (ap (λ (w : List ℕ). list_any (bytes_eq w) ys) (sym ((bytes_eq-Decides x z).0 s)) ∙ h)) refl)
    by_tests true false s t rest = ap (λ (c : Bool). c || list_any (bytes_eq x) left) s
    by_tests false true s t rest = rest (sym (ap (λ (c : Bool). c || list_any (bytes_eq x) zs) s) ∙ e)
    by_tests false false s t rest = ap (λ (c : Bool). c || list_any (bytes_eq x) left) s ∙ rest (sym (ap (λ (c : Bool). c || list_any (bytes_eq x) zs) s) ∙ e)

-- where all of some are among others, and neither have repeats, as many fewer are left
pub outside_counts : (ys xs : List (List ℕ)) → AreOnce ys → AreOnce xs → ((y : List ℕ) → Contains ys y → list_any (bytes_eq y) xs ≡ true)
    → length (filter (outside ys) xs) + length ys ≡ length xs
outside_counts [] xs ys_once xs_once within = let n = ap length (none_outside xs) in omega (arith, n)
outside_counts (y ∷ ys) xs ys_once xs_once within =
    let rest = outside_counts ys xs ys_once.1 xs_once (λ z c. within z (contains_later y ys z c)) in
    let there = still_there y ys xs ys_once.0 (within y (contains_first y ys)) in
    let one = one_left_out y (filter (outside ys) xs) (once_filtered (outside ys) xs xs_once) there in
    let more = ap length (left_out_more y ys xs) in
    omega (arith, rest, one, more)
