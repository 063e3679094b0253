-- The first entry under a name.
use Rattle.std.proofs.Common.{◌≡◌, ◌≢◌, ◌+◌, ◌<◌, ◌≤◌, ℕ, Bool, true, false, cond, List, [], ◌∷◌, ◌++◌, length, eqb, Option, Some, None, sym, ap, ◌∙◌, slice_get, position, arith}
use Rattle.std.specs.List.{Contains, position_or_len, find as list_find, slice_index_or}
use Rattle.std.specs.Str.{bytes_eq}
use Rattle.std.proofs.lemmas.Bool.Decides.{nat_tests}
use Rattle.std.proofs.lemmas.List.Folds.{find_at, position_or_len_push}
use Rattle.std.proofs.lemmas.List.{length-append}
use Rattle.std.proofs.lemmas.List.Sums.{fails_before_first}
use Rattle.std.proofs.lemmas.Option.{slice_get-get_or, slice_get_past}
use Rattle.std.specs.Prelude.{nat_lt}
use Rattle.std.proofs.lemmas.List.Quantifiers.{position-Some}
use Rattle.std.proofs.lemmas.Slice.Eq.{bytes_eq-Decides}
use Rattle.std.proofs.lemmas.Bool.{true≢false}
use Rattle.bk_index.specs.Finding.{has_key}

abbrev at_or_none : ℕ → ℕ → Option ℕ
at_or_none n len = cond (nat_lt n len) (Some n) None

some_stays : (n len n' len' k : ℕ) (b : Bool) → n' ≡ cond (eqb n len) (len + cond b 0 1) n → len' ≡ len + 1 → at_or_none n len ≡ Some k → at_or_none n' len' ≡ Some k
some_stays n len n' len' k b e f h = grind (arith, nat_tests)

none_high : (n len : ℕ) → at_or_none n len ≡ None → len ≤ n
none_high n len h = grind (arith, nat_tests)

some_low : (n len k : ℕ) → at_or_none n len ≡ Some k → (n ≡ k) × (k < len)
some_low n len k h = (grind (arith, nat_tests), grind (arith, nat_tests))

module _ {E : Type 0} (p : E → Bool) where
  -- the first that passes is still the first in a longer list
  pub position_push_some : (xs : List E) (x : E) (k : ℕ) → position p xs ≡ Some k → position p (xs ++ x ∷ []) ≡ Some k
  position_push_some xs x k h =
      some_stays (position_or_len p xs) (length xs) (position_or_len p (xs ++ x ∷ [])) (length (xs ++ x ∷ [])) k (p x)
      (position_or_len_push p xs x) (length-append xs (x ∷ [])) h

  -- nothing passes where there is no first
  pub none_passes : (xs : List E) → position p xs ≡ None → (e : E) → Contains xs e → p e ≡ false
  none_passes xs h e (k, low, is) =
      let high = none_high (position_or_len p xs) (length xs) h in
      ap p (sym is) ∙ fails_before_first p xs k e (omega arith)

  -- the first that passes is at its index
  pub find_position : (xs : List E) (k : ℕ) (d : E) → position p xs ≡ Some k → list_find p xs ≡ Some (slice_index_or xs k d)
  find_position xs k d h =
      let low = some_low (position_or_len p xs) (length xs) k h in
      find_at p xs ∙ (ap (slice_get xs) low.0 ∙ slice_get-get_or xs k d low.1)

  pub find_none : (xs : List E) → position p xs ≡ None → list_find p xs ≡ None
  find_none xs h = find_at p xs ∙ slice_get_past xs (position_or_len p xs) (none_high (position_or_len p xs) (length xs) h)

named : (id other : List ℕ) → bytes_eq id other ≡ true → id ≡ other
named id other e = (bytes_eq-Decides id other).0 e

module _ {E : Type 0} (name : E → List ℕ) where
  -- what is found is there
  pub named_at : (xs : List E) (id : List ℕ) (k : ℕ) → position (has_key name id) xs ≡ Some k → (k < length xs) × ((d : E) → name (slice_index_or xs k d) ≡ id)
  named_at xs id k h =
      let at : (d : E) → (k < length xs) × (has_key name id (slice_index_or xs k d) ≡ true) × ((j : ℕ) → j < k → has_key name id (slice_index_or xs j d) ≡ false) =
      λ d. position-Some (has_key name id) xs k d h in
      let low : k < length xs = (some_low (position_or_len (has_key name id) xs) (length xs) k h).1 in
      (low, λ d. named (name (slice_index_or xs k d)) id (at d).1)

  -- under a name that is not found nothing is held
  pub named_none : (xs : List E) (id : List ℕ) → position (has_key name id) xs ≡ None → (e : E) → Contains xs e → name e ≢ id
  named_none xs id h e there = λ is. true≢false (sym ((bytes_eq-Decides (name e) id).1 is) ∙ none_passes (has_key name id) xs h e there)
