-- What a place is found to have after a number was entered.
use Rattle.std.proofs.Common.{◌≡◌, ◌≢◌, ℕ, suc, ◌+◌, ◌*◌, ◌-◌, ◌<◌, ◌/◌, ◌%◌, ◌⊎◌, inl, inr, true, false, cond, List, Option, Some, None, nat_lt, sym, ap, ◌∙◌, arith}
use Rattle.std.specs.BTreeMap.{BTreeMap, get}
use Rattle.std.specs.Cmp.{tied_itself}
use Rattle.std.specs.Ordering.{is_eq}
use Rattle.std.proofs.lemmas.Bool.{cases_Bool, false≢true}
use Rattle.std.proofs.lemmas.Bool.Decides.{nat_tests}
use Rattle.std.proofs.lemmas.Nat.{div-mul-add, mod-mul-add}
use Rattle.bk_cert.specs.Place.{place_cmp}
use Rattle.bk_cert.specs.declared.place.CertRef.{CertRef}
use Rattle.bk_cert.proofs.Refs.{same_place, exact_ref, equal_from_test, ref_total}
use Rattle.bk_index.specs.private.Rows.{entry_of, read_entry, number_or}

same_some : {X : Type 0} (x y : X) → ◌≡◌ {A = Option X} (Some x) (Some y) → x ≡ y
same_some x y e = cc

exact : (a b : CertRef) → is_eq (place_cmp a b) ≡ true → a ≡ b
exact a b e = exact_ref a b (equal_from_test (place_cmp a b) e)

-- where an entry is says which place has it
data Entry (m : ℕ) (a : CertRef) : Type 0 where
  none : entry_of m a ≡ None → Entry m a
  some : 0 < a.round → a.author < m → entry_of m a ≡ Some ((a.round - 1) * m + a.author) → Entry m a

entry : (m : ℕ) (a : CertRef) → Entry m a
entry m a = by (cases_Bool (nat_lt 0 a.round)) (cases_Bool (nat_lt a.author m))
  where
    at : Option ℕ
    at = Some ((a.round - 1) * m + a.author)

    by : (nat_lt 0 a.round ≡ true) ⊎ (nat_lt 0 a.round ≡ false) → (nat_lt a.author m ≡ true) ⊎ (nat_lt a.author m ≡ false) → Entry m a
    by (inl r) (inl x) = some (grind (arith, nat_tests)) (grind (arith, nat_tests)) (ap (λ b. cond b (cond (nat_lt a.author m) at None) None) r ∙ ap (λ b. cond b at None) x)
    by (inl r) (inr x) = none (ap (λ b. cond b (cond (nat_lt a.author m) at None) None) r ∙ ap (λ b. cond b at None) x)
    by (inr r) x = none (ap (λ b. cond b (cond (nat_lt a.author m) at None) None) r)

same_entry : (m : ℕ) (a b : CertRef) → entry_of m a ≢ None → entry_of m a ≡ entry_of m b → a ≡ b
same_entry m a b there same = by (entry m a) (entry m b)
  where
    by : Entry m a → Entry m b → a ≡ b
    by (none e) _ = absurd (there e)
    by (some r x e) (none f) = absurd (there (same ∙ f))
    by (some r x e) (some s y f) =
        let at : (a.round - 1) * m + a.author ≡ (b.round - 1) * m + b.author = same_some _ _ (sym e ∙ (same ∙ f)) in
        let rounds : a.round - 1 ≡ b.round - 1 = sym (div-mul-add (a.round - 1) m a.author x) ∙ (ap (λ k. k / m) at ∙ div-mul-add (b.round - 1) m b.author y) in
        let authors : a.author ≡ b.author = sym (mod-mul-add (a.round - 1) m a.author x) ∙ (ap (λ k. k % m) at ∙ mod-mul-add (b.round - 1) m b.author y) in
        same_place a b (omega (arith, r, s, rounds)) authors

zero_suc : (n : ℕ) → 0 ≡ n + 1 → ⊥
zero_suc n e = omega (arith, e)

entered : (n e : ℕ) (other : Option ℕ) → e ≡ n + 1 → number_or e other ≡ Some n
entered n e other is = ap (λ k. number_or k other) (let up : e ≡ suc n = omega (arith, is) in up)

module _ (m n : ℕ) (a : CertRef) (beyond : BTreeMap CertRef ℕ) where
  -- an entry in a row
  pub number_written : (old new : List ℕ) → read_entry new (entry_of m a) ≡ n + 1
      → ((j : Option ℕ) → j ≢ entry_of m a → read_entry new j ≡ read_entry old j)
      → (b : CertRef) → number_or (read_entry new (entry_of m b)) (get place_cmp beyond b)
      ≡ cond (is_eq (place_cmp a b)) (Some n) (number_or (read_entry old (entry_of m b)) (get place_cmp beyond b))
  number_written old new here others b = by (cases_Bool (is_eq (place_cmp a b)))
    where
      there : entry_of m a ≢ None
      there e = zero_suc n (sym (ap (read_entry new) e) ∙ here)

      Goal : Type 0
      Goal = number_or (read_entry new (entry_of m b)) (get place_cmp beyond b)
          ≡ cond (is_eq (place_cmp a b)) (Some n) (number_or (read_entry old (entry_of m b)) (get place_cmp beyond b))

      by : (is_eq (place_cmp a b) ≡ true) ⊎ (is_eq (place_cmp a b) ≡ false) → Goal
      by (inl t) = entered n _ (get place_cmp beyond b) (ap (λ c. read_entry new (entry_of m c)) (sym (exact a b t)) ∙ here)
          ∙ sym (ap (λ c. cond c (Some n) (number_or (read_entry old (entry_of m b)) (get place_cmp beyond b))) t)
      by (inr f) =
          let apart : entry_of m b ≢ entry_of m a = λ e. false≢true (sym f ∙ (ap (λ c. is_eq (place_cmp a c)) (sym (same_entry m a b there (sym e))) ∙ ap is_eq (tied_itself ref_total a))) in
          ap (λ e. number_or e (get place_cmp beyond b)) (others (entry_of m b) apart)
          ∙ sym (ap (λ c. cond c (Some n) (number_or (read_entry old (entry_of m b)) (get place_cmp beyond b))) f)
