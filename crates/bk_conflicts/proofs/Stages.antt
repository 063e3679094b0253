-- A place enters its accesses one after the other.
use Rattle.std.proofs.Common.{◌≡◌, ◌≢◌, ℕ, suc, ◌+◌, ◌<◌, ◌≤◌, ◌==◌, ◌&&◌, ◌||◌, List, [], ◌∷◌, ◌++◌, length, take, get_or, Bool, true, false, cond, refl, sym, ap, ◌∙◌, subst, arith, eq-eqb, ne_eqb, take_all, append-nil, flat_map, get_or-take, length-take}
use Rattle.std.proofs.lemmas.List.{take_more, get_or_default}
use Rattle.std.proofs.lemmas.Bool.{both_ways}
use mathlib.Core.Logic.{dite}
use native.Mathlib.Decide.{ℕ_discrete}
use Rattle.std.specs.List.{list_any}
use Rattle.std.proofs.lemmas.List.Folds.{list_any_none, list_any_more}
use Rattle.std.proofs.lemmas.Grind.{flat_map-append}
use Rattle.bk_conflicts.specs.declared.words.Access.{Access}
use Rattle.bk_conflicts.specs.declared.trail.Trail.{Trail}
use Rattle.bk_conflicts.specs.private.Accesses.{Places, uses, writes, uses_in, writes_in}
use Rattle.bk_conflicts.specs.private.Accesses.{IsAscending}
use Rattle.bk_conflicts.specs.private.Trail.{Shows, readers, last_writer, readers_in, writer_in, gathered, sources_of, all_once}
use Rattle.bk_conflicts.proofs.Marks.{once_more}

abbrev pub nobody : Access
nobody = record { slot = 0; writable = false }

-- an account comes once: the first j accesses are of lesser ones
not_yet : (f : Access → Bool) (xs : List Access) (j : ℕ) → j < length xs → IsAscending xs → ((y : Access) → y.slot < (get_or xs j nobody).slot → f y ≡ false) → list_any f (take j xs) ≡ false
not_yet f xs j l asc go = list_any_none f (take j xs) (λ i d m. let n = length-take j xs in at i d (omega arith))
  where
    at : (i : ℕ) (d : Access) → i < j → f (get_or (take j xs) i d) ≡ false
    at i d m = ap f (get_or-take j xs i d m) ∙ go (get_or xs i d) (subst (λ (y : Access). (get_or xs i d).slot < y.slot) (get_or_default xs j d nobody l) (asc i j d m l))

or_no : (u v : Bool) → v ≡ false → (u || v) ≡ u
or_no true v e = refl
or_no false v e = e

or_first : (u v : Bool) → u ≡ false → (u || v) ≡ v
or_first true v e = absurd (both_ways true e refl)
or_first false v e = refl

and_yes : (u v : Bool) → u ≡ true → (u && v) ≡ v
and_yes true v e = refl
and_yes false v e = absurd (both_ways false refl e)

and_no : (u v : Bool) → u ≡ false → (u && v) ≡ false
and_no true v e = absurd (both_ways true e refl)
and_no false v e = refl

uses_else : (xs : List Access) (j b : ℕ) → j < length xs → b ≢ (get_or xs j nobody).slot → uses_in (take (j + 1) xs) b ≡ uses_in (take j xs) b
uses_else xs j b l n = list_any_more (λ (x : Access). x.slot == b) xs j nobody l ∙ or_no (uses_in (take j xs) b) ((get_or xs j nobody).slot == b) (ne_eqb (get_or xs j nobody).slot b (λ e. n (sym e)))

writes_else : (xs : List Access) (j b : ℕ) → j < length xs → b ≢ (get_or xs j nobody).slot → writes_in (take (j + 1) xs) b ≡ writes_in (take j xs) b
writes_else xs j b l n = list_any_more (λ (x : Access). (x.slot == b) && x.writable) xs j nobody l
    ∙ or_no (writes_in (take j xs) b) (((get_or xs j nobody).slot == b) && (get_or xs j nobody).writable) (and_no ((get_or xs j nobody).slot == b) (get_or xs j nobody).writable (ne_eqb (get_or xs j nobody).slot b (λ e. n (sym e))))

uses_before : (xs : List Access) (j : ℕ) → j < length xs → IsAscending xs → uses_in (take j xs) (get_or xs j nobody).slot ≡ false
uses_before xs j l asc = not_yet (λ (x : Access). x.slot == (get_or xs j nobody).slot) xs j l asc (λ y m. ne_eqb y.slot (get_or xs j nobody).slot (λ e. absurd (omega arith)))

writes_before : (xs : List Access) (j : ℕ) → j < length xs → IsAscending xs → writes_in (take j xs) (get_or xs j nobody).slot ≡ false
writes_before xs j l asc = not_yet (λ (x : Access). (x.slot == (get_or xs j nobody).slot) && x.writable) xs j l asc (λ y m. and_no (y.slot == (get_or xs j nobody).slot) y.writable (ne_eqb y.slot (get_or xs j nobody).slot (λ e. absurd (omega arith))))

uses_now : (xs : List Access) (j : ℕ) → j < length xs → IsAscending xs → uses_in (take (j + 1) xs) (get_or xs j nobody).slot ≡ true
uses_now xs j l asc = let a : ℕ = (get_or xs j nobody).slot in list_any_more (λ (x : Access). x.slot == a) xs j nobody l ∙ (or_first (uses_in (take j xs) a) (a == a) (uses_before xs j l asc) ∙ eq-eqb a a refl)

writes_now : (xs : List Access) (j : ℕ) → j < length xs → IsAscending xs → writes_in (take (j + 1) xs) (get_or xs j nobody).slot ≡ (get_or xs j nobody).writable
writes_now xs j l asc = let a : ℕ = (get_or xs j nobody).slot in let w : Bool = (get_or xs j nobody).writable in
    list_any_more (λ (x : Access). (x.slot == a) && x.writable) xs j nobody l ∙ (or_first (writes_in (take j xs) a) ((a == a) && w) (writes_before xs j l asc) ∙ and_yes (a == a) w (eq-eqb a a refl))

-- what access j changes is what it found
pub fresh : (t : Places) (q : ℕ) (xs : List Access) (j : ℕ) (r : Trail) → j < length xs → IsAscending xs
    → Shows r (get_or xs j nobody).slot (readers_in t q (take j xs) (get_or xs j nobody).slot) (writer_in t q (take j xs) (get_or xs j nobody).slot)
    → Shows r (get_or xs j nobody).slot (readers t (get_or xs j nobody).slot q) (last_writer t (get_or xs j nobody).slot q)
fresh t q xs j r l asc h = let a : ℕ = (get_or xs j nobody).slot in
    subst (λ (b : Bool × Bool). Shows r a (cond b.0 [] (cond b.1 (q ∷ readers t a q) (readers t a q))) (cond b.0 (q ∷ []) (last_writer t a q))) (λ i. (writes_before xs j l asc i, uses_before xs j l asc i)) h

pub stage_next : (t : Places) (q : ℕ) (xs : List Access) (j n : ℕ) (r r' : Trail) → j < length xs → IsAscending xs
    → ((b : ℕ) (rs ws : List ℕ) → b ≢ (get_or xs j nobody).slot → Shows r b rs ws → Shows r' b rs ws)
    → ((rs ws : List ℕ) → Shows r (get_or xs j nobody).slot rs ws → Shows r' (get_or xs j nobody).slot (cond (get_or xs j nobody).writable [] (q ∷ rs)) (cond (get_or xs j nobody).writable (q ∷ []) ws))
    → ((a : ℕ) → a < n → Shows r a (readers_in t q (take j xs) a) (writer_in t q (take j xs) a)) → (get_or xs j nobody).slot < n
    → (a : ℕ) → a < n → Shows r' a (readers_in t q (take (j + 1) xs) a) (writer_in t q (take (j + 1) xs) a)
stage_next t q xs j n r r' l asc kept changed h low b m = let a : ℕ = (get_or xs j nobody).slot in let w : Bool = (get_or xs j nobody).writable in dite (ℕ_discrete b a)
    (λ is. subst (λ (k : ℕ). Shows r' k (readers_in t q (take (j + 1) xs) k) (writer_in t q (take (j + 1) xs) k)) (sym is)
    (subst (λ (c : Bool × Bool). Shows r' a (cond c.0 [] (cond c.1 (q ∷ readers t a q) (readers t a q))) (cond c.0 (q ∷ []) (last_writer t a q)))
    (λ i. (sym (writes_now xs j l asc) i, sym (uses_now xs j l asc) i))
    (changed (readers t a q) (last_writer t a q) (fresh t q xs j r l asc (h a low)))))
    (λ other. subst (λ (c : Bool × Bool). Shows r' b (cond c.0 [] (cond c.1 (q ∷ readers t b q) (readers t b q))) (cond c.0 (q ∷ []) (last_writer t b q)))
    (λ i. (sym (writes_else xs j b l other) i, sym (uses_else xs j b l other) i)) (kept b _ _ other (h b m)))

pub gathered_next : (t : Places) (q : ℕ) (xs : List Access) (j : ℕ) → j < length xs
    → gathered t q (take (j + 1) xs) ≡ gathered t q (take j xs) ++ sources_of (get_or xs j nobody).writable (readers t (get_or xs j nobody).slot q) (last_writer t (get_or xs j nobody).slot q)
unfolding gathered
gathered_next t q xs j l = let f : Access → List ℕ = λ x. sources_of x.writable (readers t x.slot q) (last_writer t x.slot q) in
    ap (flat_map f) (take_more xs j nobody l) ∙ (flat_map-append f (take j xs) (get_or xs j nobody ∷ []) ∙ ap (λ (ys : List ℕ). flat_map f (take j xs) ++ ys) (append-nil (f (get_or xs j nobody))))

pub found_next : (t : Places) (q : ℕ) (xs : List Access) (j : ℕ) (old mid new : List ℕ) → j < length xs → mid ≡ all_once old (gathered t q (take j xs))
    → new ≡ all_once mid (sources_of (get_or xs j nobody).writable (readers t (get_or xs j nobody).slot q) (last_writer t (get_or xs j nobody).slot q))
    → new ≡ all_once old (gathered t q (take (j + 1) xs))
found_next t q xs j old mid new l e h = let s : List ℕ = sources_of (get_or xs j nobody).writable (readers t (get_or xs j nobody).slot q) (last_writer t (get_or xs j nobody).slot q) in
    h ∙ (ap (λ (m : List ℕ). all_once m s) e ∙ (sym (once_more old (gathered t q (take j xs)) s) ∙ ap (all_once old) (sym (gathered_next t q xs j l))))

pub found_none : (t : Places) (q : ℕ) (old : List ℕ) → old ≡ all_once old (gathered t q [])
unfolding gathered all_once
found_none t q old = refl

-- all accesses are entered
pub stage_last : (t : Places) (q : ℕ) (xs : List Access) (j n : ℕ) (r : Trail) → length xs ≤ j → t q ≡ xs
    → ((a : ℕ) → a < n → Shows r a (readers_in t q (take j xs) a) (writer_in t q (take j xs) a)) → (a : ℕ) → a < n → Shows r a (readers t a (q + 1)) (last_writer t a (q + 1))
unfolding readers last_writer uses writes
stage_last t q xs j n r l e h a m = subst (λ (k : ℕ). Shows r a (readers t a k) (last_writer t a k)) (let z : suc q ≡ q + 1 = omega arith in z) (whole (subst (λ (ys : List Access). Shows r a (readers_in t q ys a) (writer_in t q ys a)) (take_all j xs l ∙ sym e) (h a m)))
  where
    whole : Shows r a (readers_in t q (t q) a) (writer_in t q (t q) a) → Shows r a (readers t a (suc q)) (last_writer t a (suc q))
    whole s = s
