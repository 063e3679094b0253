-- The places that an access has to wait for: the last writer, or the readers since.
use Rattle.std.proofs.Common.{◌≡◌, ◌≢◌, ◌⊎◌, inl, inr, ⊎_elim, ℕ, zero, suc, ◌<◌, ◌==◌, ◌&&◌, ◌||◌, List, [], ◌∷◌, Bool, true, false, cond, refl, sym, ap, ◌∙◌, arith}
use mathlib.Core.Logic.{dite}
use native.Mathlib.Decide.{ℕ_discrete}
use Rattle.std.specs.List.{list_any}
use Rattle.std.proofs.lemmas.Bool.{and_parts, and_from, or_cases, or_left, or_right, both_ways, eqb-true, eq-eqb}
use Rattle.bk_conflicts.specs.declared.words.Access.{Access}
use Rattle.bk_conflicts.specs.private.Accesses.{Places, uses, writes, clash_at}
use Rattle.bk_conflicts.specs.private.Trail.{has, last_writer, readers}

-- what passes a test passes a weaker one
pub any_with : {X : Type 0} (f g : X → Bool) (xs : List X) → ((x : X) → f x ≡ true → g x ≡ true) → list_any f xs ≡ true → list_any g xs ≡ true
any_with f g [] go e = e
any_with f g (x ∷ xs) go e = ⊎_elim (λ h. or_left (g x) (list_any g xs) (go x h)) (λ h. or_right (g x) (list_any g xs) (any_with f g xs go h)) (or_cases (f x) (list_any f xs) e)

pub writes_uses : (t : Places) (a q : ℕ) → writes t a q ≡ true → uses t a q ≡ true
unfolding writes uses
writes_uses t a q e = any_with (λ (x : Access). (x.slot == a) && x.writable) (λ (x : Access). x.slot == a) (t q) (λ x h. (and_parts (x.slot == a) x.writable h).0) e

-- the parts of a clash_at
pub clash_parts : (t : Places) (a p q : ℕ) → clash_at t a p q ≡ true → (uses t a p ≡ true) × (uses t a q ≡ true) × ((writes t a p ≡ true) ⊎ (writes t a q ≡ true))
unfolding clash_at
clash_parts t a p q e = let h = and_parts (uses t a p && uses t a q) (writes t a p || writes t a q) e in let u = and_parts (uses t a p) (uses t a q) h.0 in (u.0, u.1, or_cases (writes t a p) (writes t a q) h.1)

pub clash_left : (t : Places) (a p q : ℕ) → writes t a p ≡ true → uses t a q ≡ true → clash_at t a p q ≡ true
unfolding clash_at
clash_left t a p q w u = and_from (uses t a p && uses t a q) (writes t a p || writes t a q) (and_from (uses t a p) (uses t a q) (writes_uses t a p w) u) (or_left (writes t a p) (writes t a q) w)

pub clash_right : (t : Places) (a p q : ℕ) → uses t a p ≡ true → writes t a q ≡ true → clash_at t a p q ≡ true
unfolding clash_at
clash_right t a p q u w = and_from (uses t a p && uses t a q) (writes t a p || writes t a q) (and_from (uses t a p) (uses t a q) u (writes_uses t a q w)) (or_right (writes t a p) (writes t a q) w)

-- no place between p and k writes a
abbrev pub NoWriter : Places → ℕ → ℕ → ℕ → Type 0
NoWriter t a p k = (m : ℕ) → p < m → m < k → writes t a m ≡ false

pub record IsLast (t : Places) (a p k : ℕ) : Type 0 where
  pub earlier : p < k
  pub wrote : writes t a p ≡ true
  pub none : NoWriter t a p k

pub record IsReader (t : Places) (a p k : ℕ) : Type 0 where
  pub earlier : p < k
  pub used : uses t a p ≡ true
  pub not_wrote : writes t a p ≡ false
  pub none : NoWriter t a p k

-- one place more, which does not write
more_none : (t : Places) (a p k : ℕ) → NoWriter t a p k → writes t a k ≡ false → NoWriter t a p (suc k)
more_none t a p k h e m l u = dite (ℕ_discrete m k) (λ is. ap (writes t a) is ∙ e) (λ other. h m l (omega arith))

pub has_first : (p x : ℕ) (xs : List ℕ) → has p (x ∷ xs) ≡ true → (x ≡ p) ⊎ (has p xs ≡ true)
unfolding has
has_first p x xs e = ⊎_elim (λ h. inl (eqb-true x p h)) (λ h. inr h) (or_cases (x == p) (has p xs) e)

pub has_here : (p x : ℕ) (xs : List ℕ) → x ≡ p → has p (x ∷ xs) ≡ true
unfolding has
has_here p x xs e = or_left (x == p) (has p xs) (eq-eqb x p e)

pub has_later : (p x : ℕ) (xs : List ℕ) → has p xs ≡ true → has p (x ∷ xs) ≡ true
unfolding has
has_later p x xs e = or_right (x == p) (has p xs) e

pub has_none : (p : ℕ) → has p [] ≡ true → ⊥
unfolding has
has_none p e = let f : false ≡ true = e in cc

pub last_is : (t : Places) (a p k : ℕ) → has p (last_writer t a k) ≡ true → IsLast t a p k
unfolding last_writer
last_is t a p zero h = absurd (has_none p h)
last_is t a p (suc k) h = at (writes t a k) refl h (last_is t a p k)
  where
    at : (b : Bool) → writes t a k ≡ b → has p (cond b (k ∷ []) (last_writer t a k)) ≡ true → (has p (last_writer t a k) ≡ true → IsLast t a p k) → IsLast t a p (suc k)
    at true e h ih = ⊎_elim (λ is. record { earlier = omega arith; wrote = ap (writes t a) (sym is) ∙ e; none = λ m l u. absurd (omega arith) }) (λ n. absurd (has_none p n)) (has_first p k [] h)
    at false e h ih = let r = ih h in record { earlier = let l = r.earlier in omega arith; wrote = r.wrote; none = more_none t a p k r.none e }

pub last_has : (t : Places) (a p k : ℕ) → IsLast t a p k → has p (last_writer t a k) ≡ true
unfolding last_writer
last_has t a p zero r = absurd (let l = r.earlier in omega arith)
last_has t a p (suc k) r = at (writes t a k) refl (last_has t a p k)
  where
    at : (b : Bool) → writes t a k ≡ b → (IsLast t a p k → has p (last_writer t a k) ≡ true) → has p (cond b (k ∷ []) (last_writer t a k)) ≡ true
    at true e ih = dite (ℕ_discrete k p) (λ is. has_here p k [] is) (λ other. let l = r.earlier in absurd (both_ways _ (r.none k (omega arith) (omega arith)) e))
    at false e ih = dite (ℕ_discrete k p) (λ is. absurd (both_ways _ e (ap (writes t a) is ∙ r.wrote)))
        (λ other. let l = r.earlier in ih (record { earlier = omega arith; wrote = r.wrote; none = λ m low high. r.none m low (omega arith) }))

pub reader_is : (t : Places) (a p k : ℕ) → has p (readers t a k) ≡ true → IsReader t a p k
unfolding readers
reader_is t a p zero h = absurd (has_none p h)
reader_is t a p (suc k) h = at (writes t a k) (uses t a k) refl refl h (reader_is t a p k)
  where
    at : (b u : Bool) → writes t a k ≡ b → uses t a k ≡ u → has p (cond b [] (cond u (k ∷ readers t a k) (readers t a k))) ≡ true → (has p (readers t a k) ≡ true → IsReader t a p k) → IsReader t a p (suc k)
    at true u e f h ih = absurd (has_none p h)
    at false true e f h ih = ⊎_elim (λ is. record { earlier = omega arith; used = ap (uses t a) (sym is) ∙ f; not_wrote = ap (writes t a) (sym is) ∙ e; none = λ m l v. absurd (omega arith) })
        (λ h. let r = ih h in record { earlier = let l = r.earlier in omega arith; used = r.used; not_wrote = r.not_wrote; none = more_none t a p k r.none e }) (has_first p k (readers t a k) h)
    at false false e f h ih = let r = ih h in record { earlier = let l = r.earlier in omega arith; used = r.used; not_wrote = r.not_wrote; none = more_none t a p k r.none e }

pub reader_has : (t : Places) (a p k : ℕ) → IsReader t a p k → has p (readers t a k) ≡ true
unfolding readers
reader_has t a p zero r = absurd (let l = r.earlier in omega arith)
reader_has t a p (suc k) r = at (writes t a k) (uses t a k) refl refl (reader_has t a p k)
  where
    back : k ≢ p → IsReader t a p k
    back other = let l = r.earlier in record { earlier = omega arith; used = r.used; not_wrote = r.not_wrote; none = λ m low high. r.none m low (omega arith) }

    at : (b u : Bool) → writes t a k ≡ b → uses t a k ≡ u → (IsReader t a p k → has p (readers t a k) ≡ true) → has p (cond b [] (cond u (k ∷ readers t a k) (readers t a k))) ≡ true
    at true u e f ih = dite (ℕ_discrete k p) (λ is. absurd (both_ways _ r.not_wrote (ap (writes t a) (sym is) ∙ e))) (λ other. let l = r.earlier in absurd (both_ways _ (r.none k (omega arith) (omega arith)) e))
    at false true e f ih = dite (ℕ_discrete k p) (λ is. has_here p k (readers t a k) is) (λ other. has_later p k (readers t a k) (ih (back other)))
    at false false e f ih = dite (ℕ_discrete k p) (λ is. absurd (both_ways _ f (ap (uses t a) is ∙ r.used))) (λ other. ih (back other))
