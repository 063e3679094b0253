-- The list of digests, where one is added or taken out.
use Rattle.std.proofs.Common.{◌≡◌, ℕ, suc, ◌+◌, ◌-◌, ◌<◌, ◌≤◌, Bool, true, false, cond, List, [], ◌∷◌, ◌++◌, Option, Some, None, length, take, refl, sym, ap, ◌∙◌, arith}
use Rattle.std.specs.Prelude.{◌||◌, nat_lt, not, is_some, IsSome, option_map}
use Rattle.std.specs.Str.{bytes_eq}
use Rattle.std.specs.List.{fold, list_any, position, position_or_len}
use Rattle.std.proofs.lemmas.Slice.Eq.{bytes_eq-Decides}
use Rattle.std.proofs.lemmas.Bool.{both_ways}
use Rattle.std.proofs.lemmas.Bool.Decides.{nat_tests}
use Rattle.std.proofs.lemmas.List.{append-nil, append_assoc, take_at, take_all, take-take}
use Rattle.bk_index.specs.Finding.{has_key}
use Rattle.bk_flatten.specs.private.Listing.{with_digest, with_digests}

pub same_back : (x y : List ℕ) (b : Bool) → bytes_eq x y ≡ b → bytes_eq y x ≡ b
same_back x y true e = (bytes_eq-Decides y x).1 (sym ((bytes_eq-Decides x y).0 e))
same_back x y false e = by_test (bytes_eq y x) refl
  where
    by_test : (b : Bool) → bytes_eq y x ≡ b → bytes_eq y x ≡ false
    by_test false t = t
    by_test true t = absurd (both_ways (bytes_eq x y) e ((bytes_eq-Decides x y).1 (sym ((bytes_eq-Decides y x).0 t))))

-- ---- a digest is added where it is not found

low_first : (len : ℕ) → nat_lt 0 (suc len) ≡ true
low_first len = grind (arith, nat_tests)

low_next : (n len : ℕ) → nat_lt (1 + n) (suc len) ≡ nat_lt n len
low_next n len = grind (arith, nat_tests)

low_any : {E : Type 0} (p : E → Bool) (xs : List E) → nat_lt (position_or_len p xs) (length xs) ≡ list_any p xs
low_any p [] = refl
low_any p (x ∷ xs) = by_test (p x) (low_any p xs)
  where
    by_test : (b : Bool) → nat_lt (position_or_len p xs) (length xs) ≡ list_any p xs
        → nat_lt (cond (not b) (1 + position_or_len p xs) 0) (suc (length xs)) ≡ (b || list_any p xs)
    by_test true rest = low_first (length xs)
    by_test false rest = low_next (position_or_len p xs) (length xs) ∙ rest

some_test : (b : Bool) (n : ℕ) → is_some (cond b (Some n) None) ≡ b
some_test true n = refl
some_test false n = refl

module _ {E : Type 0} (key_of : E → List ℕ) where
  -- the key is in the list exactly where it is found
  found_any : (xs : List E) (d : List ℕ) → is_some (position (has_key key_of d) xs) ≡ list_any (λ x. bytes_eq d (key_of x)) xs
  found_any xs d =
      some_test _ (position_or_len (has_key key_of d) xs)
      ∙ (low_any (has_key key_of d) xs ∙ (λ i. list_any (λ x. same_back d (key_of x) (bytes_eq d (key_of x)) refl i) xs))

  -- an entry is added where its key is not found
  pub added_by : (xs ys : List E) (e : E) (o : Option (ℕ × E)) → option_map (λ (f : ℕ × E). f.0) o ≡ position (has_key key_of (key_of e)) xs
      → (IsSome o → ys ≡ xs) → (o ≡ None → ys ≡ xs ++ e ∷ []) → ys ≡ cond (list_any (λ x. bytes_eq (key_of e) (key_of x)) xs) xs (xs ++ e ∷ [])
  added_by xs ys e None found known new = new refl ∙ sym (ap (λ (t : Bool). cond t xs (xs ++ e ∷ [])) (sym (ap is_some found ∙ found_any xs (key_of e))))
  added_by xs ys e (Some f) found known new = known refl ∙ sym (ap (λ (t : Bool). cond t xs (xs ++ e ∷ [])) (sym (ap is_some found ∙ found_any xs (key_of e))))

pub added : (xs ys : List (List ℕ)) (d : List ℕ) (o : Option (ℕ × List ℕ)) → option_map (λ (f : ℕ × List ℕ). f.0) o ≡ position (has_key (λ (e : List ℕ). e) d) xs
    → (IsSome o → ys ≡ xs) → (o ≡ None → ys ≡ xs ++ d ∷ []) → ys ≡ with_digest xs d
added = added_by (λ (e : List ℕ). e)

-- ---- what is added is taken out again

begins : (list named : List (List ℕ)) → (more : List (List ℕ)) × (with_digests list named ≡ list ++ more)
begins list [] = ([], sym (append-nil list))
begins list (d ∷ named) = by_test (list_any (bytes_eq d) list) (begins list named) (begins (list ++ d ∷ []) named)
  where
    by_test : (b : Bool) → (more : List (List ℕ)) × (with_digests list named ≡ list ++ more)
        → (more : List (List ℕ)) × (with_digests (list ++ d ∷ []) named ≡ (list ++ d ∷ []) ++ more)
        → (more : List (List ℕ)) × (fold with_digest (cond b list (list ++ d ∷ [])) named ≡ list ++ more)
    by_test true there new = there
    by_test false there new = (d ∷ new.0, new.1 ∙ append_assoc list (d ∷ []) new.0)

pub cut_back : (list named : List (List ℕ)) (len : ℕ) → len ≡ length list → take len (with_digests list named) ≡ list
cut_back list named len is = let (more, e) = begins list named in ap (take len) e ∙ take_at list more len (sym is)

pub one_out : (now before : List (List ℕ)) (len : ℕ) → len < length now → take len now ≡ take len before → take len (take (length now - 1) now) ≡ take len before
one_out now before len low h = take-take len (length now - 1) now (omega arith) ∙ h

pub all_out : (now before : List (List ℕ)) (len : ℕ) → length now ≤ len → take len now ≡ take len before → now ≡ take len before
all_out now before len high h = sym (take_all len now high) ∙ h
