-- The direct predecessors of a place are the places with an edge to it, each once.
use Rattle.std.proofs.Common.{◌≡◌, ◌⊎◌, inl, inr, ⊎_elim, ℕ, zero, suc, ◌+◌, ◌<◌, ◌≤◌, ◌==◌, ◌&&◌, List, [], ◌∷◌, ◌++◌, length, get_or, Bool, true, false, cond, eqb, refl, sym, ap, ◌∙◌, subst, arith, eq-eqb, flat_map}
use mathlib.Core.Logic.{dite}
use native.Mathlib.Decide.{ℕ_discrete}
use Rattle.std.specs.List.{list_any}
use Rattle.std.proofs.lemmas.List.Folds.{list_any_none, list_any_at}
use Rattle.std.proofs.lemmas.List.{get_or_default}
use Rattle.std.proofs.lemmas.Bool.{both_ways, cases_order, or_cases, and_from, eqb-true}
use Rattle.bk_conflicts.specs.Scene.{times}
use Rattle.bk_conflicts.specs.declared.words.Access.{Access}
use Rattle.bk_conflicts.specs.private.Accesses.{Places, uses, writes, writes_in, clash_at}
use Rattle.bk_conflicts.specs.private.Accesses.{IsAscending}
use Rattle.bk_conflicts.specs.Conflicts.{IsNearest, Edge}
use Rattle.bk_conflicts.specs.private.Trail.{has, readers, last_writer, gathered, sources_of, with_once, all_once, direct}
use Rattle.bk_conflicts.proofs.Sources.{has_first, has_here, has_later, has_none, clash_parts}
use Rattle.bk_conflicts.proofs.Nearest.{source_near, near_source}
use Rattle.bk_conflicts.proofs.Turning.{times_append, hit, miss}
use Rattle.bk_conflicts.proofs.Stages.{nobody}

has_append : (p : ℕ) (xs ys : List ℕ) → has p (xs ++ ys) ≡ true → (has p xs ≡ true) ⊎ (has p ys ≡ true)
has_append p [] ys h = inr h
has_append p (x ∷ xs) ys h = ⊎_elim (λ e. inl (has_here p x xs e)) (λ r. ⊎_elim (λ a. inl (has_later p x xs a)) (λ b. inr b) (has_append p xs ys r)) (has_first p x (xs ++ ys) h)

append_left : (p : ℕ) (xs ys : List ℕ) → has p xs ≡ true → has p (xs ++ ys) ≡ true
append_left p [] ys h = absurd (has_none p h)
append_left p (x ∷ xs) ys h = ⊎_elim (λ e. has_here p x (xs ++ ys) e) (λ r. has_later p x (xs ++ ys) (append_left p xs ys r)) (has_first p x xs h)

append_right : (p : ℕ) (xs ys : List ℕ) → has p ys ≡ true → has p (xs ++ ys) ≡ true
append_right p [] ys h = h
append_right p (x ∷ xs) ys h = has_later p x (xs ++ ys) (append_right p xs ys h)

-- one more, once
once_has : (p y : ℕ) (xs : List ℕ) → has p (with_once xs y) ≡ true → (has p xs ≡ true) ⊎ (y ≡ p)
once_has p y xs h = at (has y xs) h
  where
    at : (b : Bool) → has p (cond b xs (xs ++ y ∷ [])) ≡ true → (has p xs ≡ true) ⊎ (y ≡ p)
    at true h = inl h
    at false h = ⊎_elim (λ a. inl a) (λ b. ⊎_elim (λ e. inr e) (λ n. absurd (has_none p n)) (has_first p y [] b)) (has_append p xs (y ∷ []) h)

once_old : (p y : ℕ) (xs : List ℕ) → has p xs ≡ true → has p (with_once xs y) ≡ true
once_old p y xs h = at (has y xs)
  where
    at : (b : Bool) → has p (cond b xs (xs ++ y ∷ [])) ≡ true
    at true = h
    at false = append_left p xs (y ∷ []) h

once_new : (y : ℕ) (xs : List ℕ) → has y (with_once xs y) ≡ true
once_new y xs = at (has y xs) refl
  where
    at : (b : Bool) → has y xs ≡ b → has y (cond b xs (xs ++ y ∷ [])) ≡ true
    at true e = e
    at false e = append_right y xs (y ∷ []) (has_here y y [] refl)

pub all_once_has : (p : ℕ) (ys xs : List ℕ) → has p (all_once xs ys) ≡ true → (has p xs ≡ true) ⊎ (has p ys ≡ true)
unfolding all_once
all_once_has p [] xs h = inl h
all_once_has p (y ∷ ys) xs h = ⊎_elim (λ a. ⊎_elim (λ b. inl b) (λ e. inr (has_here p y ys e)) (once_has p y xs a)) (λ b. inr (has_later p y ys b)) (all_once_has p ys (with_once xs y) h)

pub all_once_old : (p : ℕ) (ys xs : List ℕ) → has p xs ≡ true → has p (all_once xs ys) ≡ true
unfolding all_once
all_once_old p [] xs h = h
all_once_old p (y ∷ ys) xs h = all_once_old p ys (with_once xs y) (once_old p y xs h)

pub all_once_new : (p : ℕ) (ys xs : List ℕ) → has p ys ≡ true → has p (all_once xs ys) ≡ true
unfolding all_once
all_once_new p [] xs h = absurd (has_none p h)
all_once_new p (y ∷ ys) xs h = ⊎_elim (λ e. all_once_old p ys (with_once xs y) (subst (λ (k : ℕ). has k (with_once xs y) ≡ true) e (once_new y xs))) (λ r. all_once_new p ys (with_once xs y) r) (has_first p y ys h)

-- how often: once where it is there
pub times_none : (p : ℕ) (xs : List ℕ) → has p xs ≡ false → times p xs ≡ 0
unfolding times
times_none p [] h = refl
times_none p (x ∷ xs) h = dite (ℕ_discrete x p) (λ e. absurd (both_ways _ h (has_here p x xs e)))
    (λ n. let a = miss x p n in let b = times_none p xs (at (has p xs) refl) in let k : ℕ = cond (eqb x p) 1 0 in let e : k + times p xs ≡ 0 = omega arith in e)
  where
    at : (b : Bool) → has p xs ≡ b → has p xs ≡ false
    at true e = absurd (both_ways _ h (has_later p x xs e))
    at false e = e

pub times_some : (p : ℕ) (xs : List ℕ) → has p xs ≡ true → 0 < times p xs
unfolding times
times_some p [] h = absurd (has_none p h)
times_some p (x ∷ xs) h = let k : ℕ = cond (eqb x p) 1 0 in ⊎_elim (λ e. let a = hit x in let b : cond {A = ℕ} (eqb x p) 1 0 ≡ cond {A = ℕ} (eqb x x) 1 0 = ap (λ (z : ℕ). cond {A = ℕ} (eqb x z) 1 0) (sym e) in let r : 0 < k + times p xs = omega arith in r)
    (λ h. let a = times_some p xs h in let r : 0 < k + times p xs = omega arith in r) (has_first p x xs h)

once_times : (p y : ℕ) (xs : List ℕ) → times p xs ≤ 1 → times p (with_once xs y) ≤ 1
unfolding times
once_times p y xs l = at (has y xs) refl
  where
    one : times p (y ∷ []) ≡ cond {A = ℕ} (eqb y p) 1 0 + 0
    one = refl

    at : (b : Bool) → has y xs ≡ b → times p (cond b xs (xs ++ y ∷ [])) ≤ 1
    at true e = l
    at false e = let a = times_append p xs (y ∷ []) in dite (ℕ_discrete y p)
        (λ is. let b = times_none p xs (ap (λ (k : ℕ). has k xs) (sym is) ∙ e) in let c = hit y in let d : cond {A = ℕ} (eqb y p) 1 0 ≡ cond {A = ℕ} (eqb y y) 1 0 = ap (λ (z : ℕ). cond {A = ℕ} (eqb y z) 1 0) (sym is) in let o = one in omega arith)
        (λ n. let c = miss y p n in let o = one in omega arith)

pub all_once_times : (p : ℕ) (ys xs : List ℕ) → times p xs ≤ 1 → times p (all_once xs ys) ≤ 1
unfolding all_once
all_once_times p [] xs l = l
all_once_times p (y ∷ ys) xs l = all_once_times p ys (with_once xs y) (once_times p y xs l)

-- where a test finds something
find_at : (f : Access → Bool) (xs : List Access) → list_any f xs ≡ true → (i : ℕ) × (i < length xs) × (f (get_or xs i nobody) ≡ true)
find_at f [] e = absurd (let z : false ≡ true = e in both_ways false refl z)
find_at f (x ∷ xs) e = ⊎_elim (λ h. (0, omega arith, h)) (λ h. let w = find_at f xs h in (suc w.0, omega arith, w.2)) (or_cases (f x) (list_any f xs) e)

flat_has : (p : ℕ) (f : Access → List ℕ) (xs : List Access) → has p (flat_map f xs) ≡ true → (i : ℕ) × (i < length xs) × (has p (f (get_or xs i nobody)) ≡ true)
flat_has p f [] h = absurd (has_none p h)
flat_has p f (x ∷ xs) h = ⊎_elim (λ a. (0, omega arith, a)) (λ b. let w = flat_has p f xs b in (suc w.0, omega arith, w.2)) (has_append p (f x) (flat_map f xs) h)

has_flat : (p : ℕ) (f : Access → List ℕ) (xs : List Access) (i : ℕ) → i < length xs → has p (f (get_or xs i nobody)) ≡ true → has p (flat_map f xs) ≡ true
has_flat p f [] i l h = absurd (omega arith)
has_flat p f (x ∷ xs) zero l h = append_left p (f x) (flat_map f xs) h
has_flat p f (x ∷ xs) (suc i) l h = append_right p (f x) (flat_map f xs) (has_flat p f xs i (omega arith) h)

pub uses_at : (t : Places) (q i : ℕ) → i < length (t q) → uses t (get_or (t q) i nobody).slot q ≡ true
unfolding uses
uses_at t q i l = list_any_at (λ (x : Access). x.slot == (get_or (t q) i nobody).slot) (t q) i nobody l (eq-eqb (get_or (t q) i nobody).slot (get_or (t q) i nobody).slot refl)

no_and : (u v : Bool) → (u ≡ true → v ≡ false) → (u && v) ≡ false
no_and true v s = s refl
no_and false v s = refl

-- an account is declared once, so the place writes it as this access says
one_writes : (xs : List Access) (i : ℕ) → i < length xs → IsAscending xs → writes_in xs (get_or xs i nobody).slot ≡ (get_or xs i nobody).writable
one_writes xs i l asc = at (get_or xs i nobody).writable refl
  where
    at : (b : Bool) → (get_or xs i nobody).writable ≡ b → writes_in xs (get_or xs i nobody).slot ≡ b
    at true e = list_any_at (λ (x : Access). (x.slot == (get_or xs i nobody).slot) && x.writable) xs i nobody l (and_from ((get_or xs i nobody).slot == (get_or xs i nobody).slot) (get_or xs i nobody).writable (eq-eqb (get_or xs i nobody).slot (get_or xs i nobody).slot refl) e)
    at false e = list_any_none (λ (x : Access). (x.slot == (get_or xs i nobody).slot) && x.writable) xs (λ k d m.
        subst (λ (x : Access). ((x.slot == (get_or xs i nobody).slot) && x.writable) ≡ false) (get_or_default xs k nobody d m)
        (no_and ((get_or xs k nobody).slot == (get_or xs i nobody).slot) (get_or xs k nobody).writable (λ s.
        let same = eqb-true (get_or xs k nobody).slot (get_or xs i nobody).slot s in
        ⊎_elim (λ is. ap (λ (n : ℕ). (get_or xs n nobody).writable) is ∙ e)
        (⊎_elim (λ less. absurd (let h = asc k i nobody less l in omega arith)) (λ more. absurd (let h = asc i k nobody more m in omega arith))) (cases_order k i))))

pub writes_at : (t : Places) (q i : ℕ) → i < length (t q) → IsAscending (t q) → writes t (get_or (t q) i nobody).slot q ≡ (get_or (t q) i nobody).writable
unfolding writes
writes_at t q i l asc = one_writes (t q) i l asc

pub direct_edge : (t : Places) (p q : ℕ) → IsAscending (t q) → has p (direct t q) ≡ true → Edge (clash_at t) p q
unfolding gathered
direct_edge t p q asc h = ⊎_elim (λ n. absurd (has_none p n))
    (λ g. let w = flat_has p (λ (x : Access). sources_of x.writable (readers t x.slot q) (last_writer t x.slot q)) (t q) g in
    let x : Access = get_or (t q) w.0 nobody in
    (x.slot, source_near t x.slot p q x.writable (uses_at t q w.0 w.1) (writes_at t q w.0 w.1 asc) w.2))
    (all_once_has p (gathered t q (t q)) [] h)

find_use : (t : Places) (a q : ℕ) → uses t a q ≡ true → (i : ℕ) × (i < length (t q)) × ((get_or (t q) i nobody).slot ≡ a)
unfolding uses
find_use t a q u = let w = find_at (λ (x : Access). x.slot == a) (t q) u in (w.0, w.1, eqb-true (get_or (t q) w.0 nobody).slot a w.2)

pub edge_direct : (t : Places) (p q : ℕ) → IsAscending (t q) → Edge (clash_at t) p q → has p (direct t q) ≡ true
unfolding gathered
edge_direct t p q asc e = let w = find_use t e.0 q (clash_parts t e.0 p q e.1.here).1 in let x : Access = get_or (t q) w.0 nobody in
    let near : IsNearest (clash_at t x.slot) p q = subst (λ (a : ℕ). IsNearest (clash_at t a) p q) (sym w.2) e.1 in
    all_once_new p (gathered t q (t q)) [] (has_flat p (λ (x : Access). sources_of x.writable (readers t x.slot q) (last_writer t x.slot q)) (t q) w.0 w.1
    (near_source t x.slot p q x.writable (writes_at t q w.0 w.1 asc) near))

pub direct_once : (t : Places) (p q : ℕ) → times p (direct t q) ≤ 1
unfolding has
direct_once t p q = all_once_times p (gathered t q (t q)) [] (let a = times_none p [] refl in omega arith)
