-- Where the first entry with a key is, as a list and its table change.
use Rattle.std.proofs.Common.{◌≡◌, ◌≢◌, ℕ, ◌+◌, ◌≤◌, ◌⊎◌, inl, inr, Bool, true, false, cond, eqb, not, List, [], ◌∷◌, ◌++◌, length, map, Option, Some, None, get_or, set, slice_get, sym, ap, ◌∙◌, arith}
use Rattle.std.specs.Prelude.{nat_lt, is_some}
use Rattle.std.specs.List.{position, position_or_len}
use Rattle.std.specs.Str.{bytes_eq}
use Rattle.std.specs.Option.{option_map}
use Rattle.std.proofs.lemmas.Bool.{cases_Bool}
use Rattle.std.proofs.lemmas.Bool.Decides.{nat_tests}
use Rattle.std.proofs.lemmas.List.{length-append, length-map, length-set}
use Rattle.std.proofs.lemmas.List.Folds.{position_or_len_push, position_or_len-set}
use Rattle.std.proofs.lemmas.List.Sums.{prefix_len-le-length}
use Rattle.std.proofs.lemmas.Option.{slice_get-get_or, slice_get-map, slice_get_within}
use Rattle.std.proofs.lemmas.Slice.Eq.{bytes_eq-Decides}
use Rattle.indexmap.specs.IndexMap.{IndexMap, get}
use Rattle.bk_index.specs.Finding.{has_key}
use Rattle.bk_index.specs.private.Firsts.{AreFirsts}

abbrev at_or_none : ℕ → ℕ → Option ℕ
at_or_none n len = cond (nat_lt n len) (Some n) None

pushed_here : (n len n' len' : ℕ) → n' ≡ cond (eqb n len) (len + 0) n → len' ≡ len + 1 → at_or_none n len ≡ None → n ≤ len → at_or_none n' len' ≡ Some len
pushed_here n len n' len' e f h most = grind (arith, nat_tests)

pushed_there : (n len n' len' : ℕ) → n' ≡ cond (eqb n len) (len + 1) n → len' ≡ len + 1 → n ≤ len → at_or_none n' len' ≡ at_or_none n len
pushed_there n len n' len' e f most = grind (arith, nat_tests)

pushed_after : (n len n' len' : ℕ) (b : Bool) → n' ≡ cond (eqb n len) (len + cond b 0 1) n → len' ≡ len + 1 → is_some (at_or_none n len) ≡ true → at_or_none n' len' ≡ at_or_none n len
pushed_after n len n' len' b e f h = grind (arith, nat_tests)

same_some : {X : Type 0} (x y : X) → ◌≡◌ {A = Option X} (Some x) (Some y) → x ≡ y
same_some x y e = cc

some_low : (n len : ℕ) → at_or_none n len ≡ Some len → ⊥
some_low n len h = grind (arith, nat_tests)

cases_found : {P : Type 0} (o : Option ℕ) → (o ≡ None → P) → (is_some o ≡ true → P) → P
cases_found None none some = none (λ i. None)
cases_found (Some n) none some = some (λ i. true)

module _ {E : Type 0} (key_of : E → List ℕ) where
  first : List ℕ → List E → Option ℕ
  first q es = position (has_key key_of q) es

  key_is : (e : E) (q : List ℕ) → has_key key_of q e ≡ true → key_of e ≡ q
  key_is e q t = (bytes_eq-Decides (key_of e) q).0 t

  -- an entry with a new key is the first with it
  pub first_pushed : (es : List E) (e : E) → position (has_key key_of (key_of e)) es ≡ None
      → (q : List ℕ) → position (has_key key_of q) (es ++ e ∷ []) ≡ cond (has_key key_of q e) (Some (length es)) (position (has_key key_of q) es)
  first_pushed es e new q = by (cases_Bool (has_key key_of q e))
    where
      n : ℕ
      n = position_or_len (has_key key_of q) es

      most : n ≤ length es
      most = prefix_len-le-length (λ x. not (has_key key_of q x)) es

      is : {b : Bool} → has_key key_of q e ≡ b → position_or_len (has_key key_of q) (es ++ e ∷ []) ≡ cond (eqb n (length es)) (length es + cond b 0 1) n
      is {b} t = position_or_len_push (has_key key_of q) es e ∙ ap (λ v. cond (eqb n (length es)) (length es + cond v 0 1) n) t

      by : (has_key key_of q e ≡ true) ⊎ (has_key key_of q e ≡ false) → position (has_key key_of q) (es ++ e ∷ []) ≡ cond (has_key key_of q e) (Some (length es)) (position (has_key key_of q) es)
      by (inl t) =
          pushed_here n (length es) _ _ (is t) (length-append es (e ∷ [])) (ap (λ k. position (has_key key_of k) es) (sym (key_is e q t)) ∙ new) most
          ∙ sym (ap (λ v. cond v (Some (length es)) (position (has_key key_of q) es)) t)
      by (inr f) =
          pushed_there n (length es) _ _ (is f) (length-append es (e ∷ [])) most
          ∙ sym (ap (λ v. cond v (Some (length es)) (position (has_key key_of q) es)) f)

  -- one with a key that is there is not
  pub first_repeated : (es : List E) (e : E) → is_some (position (has_key key_of (key_of e)) es) ≡ true
      → (q : List ℕ) → position (has_key key_of q) (es ++ e ∷ []) ≡ position (has_key key_of q) es
  first_repeated es e known q = by (cases_Bool (has_key key_of q e))
    where
      by : (has_key key_of q e ≡ true) ⊎ (has_key key_of q e ≡ false) → position (has_key key_of q) (es ++ e ∷ []) ≡ position (has_key key_of q) es
      by (inl t) =
          pushed_after (position_or_len (has_key key_of q) es) (length es) _ _ (has_key key_of q e) (position_or_len_push (has_key key_of q) es e) (length-append es (e ∷ []))
          (ap (λ k. is_some (position (has_key key_of k) es)) (sym (key_is e q t)) ∙ known)
      by (inr f) =
          pushed_there (position_or_len (has_key key_of q) es) (length es) _ _
          (position_or_len_push (has_key key_of q) es e ∙ ap (λ v. cond (eqb (position_or_len (has_key key_of q) es) (length es)) (length es + cond v 0 1) (position_or_len (has_key key_of q) es)) f)
          (length-append es (e ∷ [])) (prefix_len-le-length (λ x. not (has_key key_of q x)) es)

  -- the key at an index
  pub same_at : (es : List E) (i : ℕ) (e : E) → slice_get (map key_of es) i ≡ Some (key_of e) → key_of e ≡ key_of (get_or es i e)
  same_at es i e there = same_some (key_of e) (key_of (get_or es i e)) (sym there ∙ (slice_get-map key_of es i ∙ ap (option_map key_of) (slice_get-get_or es i e
      (omega (arith, slice_get_within (map key_of es) i (key_of e) there, length-map es key_of)))))

  -- the firsts stay where an entry comes in the place of one with the same key
  pub first_set : (es : List E) (i : ℕ) (e : E) → key_of e ≡ key_of (get_or es i e)
      → (q : List ℕ) → position (has_key key_of q) (set es i e) ≡ position (has_key key_of q) es
  first_set es i e same q = λ j. at_or_none
      (position_or_len-set (has_key key_of q) es i e e (ap (λ k. bytes_eq k q) same) j)
      (length-set es i e j)

  module _ {S : Type 0} (old new : IndexMap (List ℕ) ℕ S) where
    -- the table after a new key
    pub firsts_pushed : (es : List E) (e : E) (n : ℕ) → AreFirsts key_of es old → n ≡ length es → position (has_key key_of (key_of e)) es ≡ None
        → ((q : List ℕ) → get bytes_eq new q ≡ cond (bytes_eq (key_of e) q) (Some n) (get bytes_eq old q)) → AreFirsts key_of (es ++ e ∷ []) new
    firsts_pushed es e n firsts count absent put q =
        put q ∙ ((λ i. cond (bytes_eq (key_of e) q) (Some (count i)) (firsts q i)) ∙ sym (first_pushed es e absent q))

    -- and after the last entry is gone, if it was the first with its key
    pub firsts_dropped : (es : List E) (e : E) → AreFirsts key_of (es ++ e ∷ []) old → get bytes_eq old (key_of e) ≡ Some (length es)
        → ((q : List ℕ) → get bytes_eq new q ≡ cond (bytes_eq (key_of e) q) None (get bytes_eq old q)) → AreFirsts key_of es new
    firsts_dropped es e firsts last out q = out q ∙ by (cases_Bool (bytes_eq (key_of e) q))
      where
        absent : position (has_key key_of (key_of e)) es ≡ None
        absent = cases_found (position (has_key key_of (key_of e)) es) (λ n. n)
            (λ s. absurd (some_low (position_or_len (has_key key_of (key_of e)) es) (length es) (sym (first_repeated es e s (key_of e)) ∙ (sym (firsts (key_of e)) ∙ last))))

        by : (bytes_eq (key_of e) q ≡ true) ⊎ (bytes_eq (key_of e) q ≡ false) → cond (bytes_eq (key_of e) q) None (get bytes_eq old q) ≡ position (has_key key_of q) es
        by (inl t) = ap (λ b. cond b None (get bytes_eq old q)) t ∙ sym (ap (λ k. position (has_key key_of k) es) (sym (key_is e q t)) ∙ absent)
        by (inr f) = ap (λ b. cond b None (get bytes_eq old q)) f ∙ (firsts q ∙ (first_pushed es e absent q ∙ ap (λ b. cond b (Some (length es)) (position (has_key key_of q) es)) f))

  module _ {S : Type 0} (old : IndexMap (List ℕ) ℕ S) where
    -- a repeat leaves the table
    pub firsts_stay : (es : List E) (e : E) → AreFirsts key_of (es ++ e ∷ []) old → get bytes_eq old (key_of e) ≢ Some (length es) → AreFirsts key_of es old
    firsts_stay es e firsts other q = cases_found (position (has_key key_of (key_of e)) es)
        (λ none. absurd (other (firsts (key_of e) ∙ (first_pushed es e none (key_of e) ∙ ap (λ b. cond b (Some (length es)) (position (has_key key_of (key_of e)) es)) ((bytes_eq-Decides (key_of e) (key_of e)).1 (λ i. key_of e))))))
        (λ s. firsts q ∙ first_repeated es e s q)
