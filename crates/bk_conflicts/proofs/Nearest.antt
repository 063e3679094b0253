-- The sources of an access are the nearest places on its account.
use Rattle.std.proofs.Common.{◌≡◌, ◌⊎◌, inl, inr, ⊎_elim, ℕ, List, [], ◌∷◌, Bool, true, false, refl, sym, ap, ◌∙◌, subst, arith}
use Rattle.std.proofs.lemmas.Bool.{false_from_ne_true, both_ways, cases_Bool, cases_order}
use Rattle.bk_conflicts.specs.private.Accesses.{Places, uses, writes, clash_at}
use Rattle.bk_conflicts.specs.Conflicts.{IsNearest}
use Rattle.bk_conflicts.specs.private.Trail.{has, last_writer, readers, sources_of}
use Rattle.bk_conflicts.proofs.Sources.{has_here, has_none, NoWriter, IsReader, last_is, last_has, reader_is, reader_has, clash_parts, clash_left, clash_right}

-- where no place between writes, and one of the two ends only reads, nothing between clashes with both
quiet : (t : Places) (a p q m : ℕ) → writes t a q ≡ false → writes t a m ≡ false → clash_at t a m q ≡ false
quiet t a p q m e f = false_from_ne_true (clash_at t a m q) (λ c. ⊎_elim (λ w. both_ways _ f w) (λ w. both_ways _ e w) (clash_parts t a m q c).2)

reader_near : (t : Places) (a p q : ℕ) → writes t a q ≡ true → IsReader t a p q → IsNearest (clash_at t a) p q
reader_near t a p q w r = record {
  earlier = r.earlier;
  here = clash_right t a p q r.used w;
  between = λ m low high c. absurd (⊎_elim (λ v. both_ways _ r.not_wrote v) (λ v. both_ways _ (r.none m low high) v) (clash_parts t a p m c).2);
}

pub source_near : (t : Places) (a p q : ℕ) (w : Bool) → uses t a q ≡ true → writes t a q ≡ w → has p (sources_of w (readers t a q) (last_writer t a q)) ≡ true → IsNearest (clash_at t a) p q
source_near t a p q false u e h = let r = last_is t a p q h in record {
  earlier = r.earlier;
  here = clash_left t a p q r.wrote u;
  between = λ m low high c. quiet t a p q m e (r.none m low high);
}
source_near t a p q true u e h = at (readers t a q) refl h
  where
    at : (rs : List ℕ) → readers t a q ≡ rs → has p (sources_of true rs (last_writer t a q)) ≡ true → IsNearest (clash_at t a) p q
    at [] none h = let r = last_is t a p q h in record {
      earlier = r.earlier;
      here = clash_left t a p q r.wrote u;
      between = λ m low high c. absurd (let s : has m (readers t a q) ≡ true = reader_has t a m q (record { earlier = high; used = (clash_parts t a p m c).1; not_wrote = r.none m low high; none = λ k l g. let low' = low in r.none k (omega arith) g }) in has_none m (subst (λ (xs : List ℕ). has m xs ≡ true) none s));
    }
    at (r ∷ rs) some h = reader_near t a p q e (reader_is t a p q (subst (λ (xs : List ℕ). has p xs ≡ true) (sym some) h))

pub near_source : (t : Places) (a p q : ℕ) (w : Bool) → writes t a q ≡ w → IsNearest (clash_at t a) p q → has p (sources_of w (readers t a q) (last_writer t a q)) ≡ true
near_source t a p q false e n = last_has t a p q (record {
  earlier = n.earlier;
  wrote = ⊎_elim (λ v. v) (λ v. absurd (both_ways _ e v)) (clash_parts t a p q n.here).2;
  none = λ m low high. false_from_ne_true (writes t a m) (λ v. both_ways _ (n.between m low high (clash_right t a p m (clash_parts t a p q n.here).0 v)) (clash_left t a m q v (clash_parts t a p q n.here).1));
})
near_source t a p q true e n = at (readers t a q) refl (cases_Bool (writes t a p))
  where
    still : NoWriter t a p q
    still m low high = false_from_ne_true (writes t a m) (λ v. both_ways _ (n.between m low high (clash_right t a p m (clash_parts t a p q n.here).0 v)) (clash_left t a m q v (clash_parts t a p q n.here).1))

    read : writes t a p ≡ false → has p (readers t a q) ≡ true
    read v = reader_has t a p q (record { earlier = n.earlier; used = (clash_parts t a p q n.here).0; not_wrote = v; none = still })

    -- where p writes, no reader came since
    idle : (r : ℕ) → writes t a p ≡ true → IsReader t a r q → ⊥
    idle r v s = ⊎_elim (λ same. both_ways _ s.not_wrote (ap (writes t a) (sym same) ∙ v))
        (⊎_elim (λ later. both_ways _ (n.between r later s.earlier (clash_left t a p r v s.used)) (clash_right t a r q s.used e))
        (λ sooner. both_ways _ (s.none p sooner n.earlier) v)) (cases_order p r)

    at : (rs : List ℕ) → readers t a q ≡ rs → (writes t a p ≡ true) ⊎ (writes t a p ≡ false) → has p (sources_of true rs (last_writer t a q)) ≡ true
    at [] none (inl v) = last_has t a p q (record { earlier = n.earlier; wrote = v; none = still })
    at [] none (inr v) = absurd (has_none p (subst (λ (xs : List ℕ). has p xs ≡ true) none (read v)))
    at (r ∷ rs) some (inl v) = absurd (idle r v (reader_is t a r q (subst (λ (xs : List ℕ). has r xs ≡ true) (sym some) (has_here r r rs refl))))
    at (r ∷ rs) some (inr v) = subst (λ (xs : List ℕ). has p xs ≡ true) some (read v)
