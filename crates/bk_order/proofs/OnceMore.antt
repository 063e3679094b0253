-- How many names there are, each once, with one name more.
use Rattle.std.proofs.Common.{◌≡◌, ◌≢◌, ℕ, suc, ◌+◌, ◌≤◌, Bool, true, false, cond, List, [], ◌∷◌, ◌++◌, length, map, refl, sym, ap, subst, ◌∙◌, ⊎_elim, arith, length-append}
use Rattle.std.specs.Prelude.{not, ◌||◌, filter}
use Rattle.std.specs.Str.{bytes_eq}
use Rattle.std.specs.List.{Contains, list_any}
use Rattle.std.proofs.lemmas.Slice.Eq.{bytes_eq-Decides}
use Rattle.bk_cert.proofs.Lists.{none_in_nil, contains_cases, contains_first, contains_later, from_map, in_map}
use Rattle.bk_evidence.specs.Laws.{HaveSame}
use Rattle.bk_flatten.specs.Batches.{once}
use Rattle.bk_flatten.proofs.Taken.{any_filter, once_push}
use Rattle.bk_order.specs.private.Tallies.{IsNewBy, one_if}

-- a name is among some where it is among them without repeats
pub any_once : (d : List ℕ) (xs : List (List ℕ)) → list_any (bytes_eq d) (once xs) ≡ list_any (bytes_eq d) xs
any_once d [] = refl
any_once d (x ∷ xs) = by_test (bytes_eq d x) refl (any_once d xs)
  where
    left : List (List ℕ)
    left = filter (λ (e : List ℕ). not (bytes_eq x e)) (once xs)

    by_test : (b : Bool) → bytes_eq d x ≡ b → list_any (bytes_eq d) (once xs) ≡ list_any (bytes_eq d) xs
        → (b || list_any (bytes_eq d) left) ≡ (b || list_any (bytes_eq d) xs)
    by_test true t h = refl
    by_test false t h = any_filter x d (once xs) t ∙ h

pub none_found : (d : List ℕ) (xs : List (List ℕ)) → ((e : List ℕ) → Contains xs e → e ≢ d) → list_any (bytes_eq d) xs ≡ false
none_found d [] h = refl
none_found d (x ∷ xs) h = by_test (bytes_eq d x) refl (none_found d xs (λ e c. h e (contains_later x xs e c)))
  where
    by_test : (b : Bool) → bytes_eq d x ≡ b → list_any (bytes_eq d) xs ≡ false → (b || list_any (bytes_eq d) xs) ≡ false
    by_test true t rest = absurd (h x (contains_first x xs) (sym ((bytes_eq-Decides d x).0 t)))
    by_test false t rest = rest

pub one_found : (d : List ℕ) (xs : List (List ℕ)) → Contains xs d → list_any (bytes_eq d) xs ≡ true
one_found d [] h = absurd (none_in_nil d h)
one_found d (x ∷ xs) h = by_test (bytes_eq d x) refl (λ c. one_found d xs c)
  where
    by_test : (b : Bool) → bytes_eq d x ≡ b → (Contains xs d → list_any (bytes_eq d) xs ≡ true) → (b || list_any (bytes_eq d) xs) ≡ true
    by_test true t rest = refl
    by_test false t rest = rest (⊎_elim
        (λ (e : x ≡ d). absurd (let yes = (bytes_eq-Decides d x).1 (sym e) in let clash : true ≡ false = sym yes ∙ t in cc))
        (λ (c : Contains xs d). c)
        (contains_cases x xs d h))

one_longer : (d : List ℕ) (ks : List (List ℕ)) (b : Bool) → length (cond b ks (ks ++ d ∷ [])) ≡ length ks + one_if (not b)
one_longer d ks true = let e : length ks ≡ length ks + 0 = omega arith in e
one_longer d ks false = length-append ks (d ∷ [])

pub once_counts : (xs : List (List ℕ)) (d : List ℕ) (new : Bool) → IsNewBy (λ (x : List ℕ). x) xs d new
    → length (once (xs ++ d ∷ [])) ≡ length (once xs) + one_if new
once_counts xs d true h =
    let none : list_any (bytes_eq d) (once xs) ≡ false = any_once d xs ∙ none_found d xs h in
    ap length (once_push xs d) ∙ (one_longer d (once xs) (list_any (bytes_eq d) (once xs)) ∙ ap (λ (b : Bool). length (once xs) + one_if (not b)) none)
once_counts xs d false h =
    let here : Contains xs d = subst (Contains xs) h.2 h.1 in
    let some : list_any (bytes_eq d) (once xs) ≡ true = any_once d xs ∙ one_found d xs here in
    ap length (once_push xs d) ∙ (one_longer d (once xs) (list_any (bytes_eq d) (once xs)) ∙ ap (λ (b : Bool). length (once xs) + one_if (not b)) some)

-- what is new among some is new among others of the same members, by their names
pub new_named : {E : Type 0} (name : E → List ℕ) (xs ys : List E) (n : List ℕ) (new : Bool) → HaveSame xs ys → IsNewBy name xs n new
    → IsNewBy (λ (x : List ℕ). x) (map name ys) n new
new_named {E} name xs ys n true same h = λ m c. let e = from_map name ys m c in λ q. h e.0 (same.back e.0 e.1) (e.2 ∙ q)
new_named {E} name xs ys n false same h = (name h.0, in_map name ys h.0 (same.into h.0 h.1), h.2)

-- without repeats there are no more
filter_short : (p : List ℕ → Bool) (xs : List (List ℕ)) → length (filter p xs) ≤ length xs
filter_short p [] = omega arith
filter_short p (x ∷ xs) = by_test (p x) (filter_short p xs)
  where
    by_test : (b : Bool) → length (filter p xs) ≤ length xs → length (cond b (x ∷ filter p xs) (filter p xs)) ≤ suc (length xs)
    by_test true h = omega (arith, h)
    by_test false h = omega (arith, h)

pub once_short : (xs : List (List ℕ)) → length (once xs) ≤ length xs
once_short [] = omega arith
once_short (x ∷ xs) =
    let a = filter_short (λ (e : List ℕ). not (bytes_eq x e)) (once xs) in
    let b = once_short xs in
    omega (arith, a, b)
