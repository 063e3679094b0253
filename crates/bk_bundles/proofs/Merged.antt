-- The unions of what the places of bundles access are what a planner of bundles gives.
use Rattle.std.proofs.Common.{◌≡◌, ◌⊎◌, inl, inr, ⊎_elim, ℕ, zero, suc, ◌+◌, ◌*◌, ◌<◌, ◌≤◌, ◌==◌, ◌&&◌, ◌||◌, List, [], ◌∷◌, length, get_or, All, AllPairs, Bool, true, false, cond, eqb, ltb, refl, sym, ap, ◌∙◌, subst, arith}
use Rattle.std.proofs.lemmas.Bool.{both_ways, cases_order, and_parts, and_from, or_cases, or_left, or_right, cond_both, ltb-true, ltb-false, eqb-true, eqb-false, eq-eqb}
use Rattle.std.proofs.lemmas.List.Elements.{All-cons}
use Rattle.std.proofs.lemmas.List.Kept.{AllPairs-cons}
use Rattle.bk_conflicts.specs.Plan.{PlanValue, IsPlan}
use Rattle.bk_conflicts.specs.declared.words.Access.{Access}
use Rattle.bk_conflicts.specs.private.Accesses.{Places, IsAscending, places_of, uses, writes, uses_in, writes_in}
use Rattle.bk_conflicts.specs.private.Rows.{turned}
use Rattle.bk_conflicts.specs.private.Trail.{direct}
use Rattle.bk_conflicts.proofs.Accessed.{declared_beyond}
use Rattle.bk_conflicts.specs.private.Accesses.{accesses_of}
use Rattle.bk_bundles.specs.Bundled.{any_of, bundles}
use Rattle.bk_bundles.specs.Planned.{AreUnions, BundlesArePlanned}
use Rattle.bk_bundles.specs.Merged.{put_in, put_all, union_of, unions}
use Rattle.bk_bundles.proofs.Local.{any_some, after_bundle, bundles_cover}

-- the access to a slot by both
abbrev both : Access → Access → Access
both x y = record { slot = y.slot; writable = x.writable || y.writable }

-- ---- ascending

put_above : (m : ℕ) (x : Access) (ys : List Access) → m < x.slot → All (λ (y : Access). m < y.slot) ys → All (λ (y : Access). m < y.slot) (put_in x ys)
unfolding put_in
put_above m x [] l h = All-cons (λ (y : Access). m < y.slot) x [] l h
put_above m x (y ∷ ys) l h =
    let head : m < y.slot = h 0 y (omega arith) in
    let tail : All (λ (y : Access). m < y.slot) ys = λ i d k. h (suc i) d (omega arith) in
    cond_both (ltb x.slot y.slot) (x ∷ y ∷ ys) (cond (eqb x.slot y.slot) (both x y ∷ ys) (y ∷ put_in x ys)) (All (λ (z : Access). m < z.slot))
    (λ e. All-cons (λ (z : Access). m < z.slot) x (y ∷ ys) l h)
    (λ e. cond_both (eqb x.slot y.slot) (both x y ∷ ys) (y ∷ put_in x ys) (All (λ (z : Access). m < z.slot))
    (λ f. All-cons (λ (z : Access). m < z.slot) (both x y) ys head tail)
    (λ f. All-cons (λ (z : Access). m < z.slot) y (put_in x ys) head (put_above m x ys l tail)))

put_ascends : (x : Access) (ys : List Access) → IsAscending ys → IsAscending (put_in x ys)
unfolding put_in
put_ascends x [] up = AllPairs-cons (λ (x y : Access). x.slot < y.slot) x [] (λ i d l. absurd (omega arith)) up
put_ascends x (y ∷ ys) up =
    let above : All (λ (z : Access). y.slot < z.slot) ys = λ i d l. up 0 (suc i) d (omega arith) (omega arith) in
    let tail : IsAscending ys = λ i j d l m. up (suc i) (suc j) d (omega arith) (omega arith) in
    cond_both (ltb x.slot y.slot) (x ∷ y ∷ ys) (cond (eqb x.slot y.slot) (both x y ∷ ys) (y ∷ put_in x ys)) IsAscending
    (λ e. let l = ltb-true x.slot y.slot e in AllPairs-cons (λ (x y : Access). x.slot < y.slot) x (y ∷ ys)
    (All-cons (λ (z : Access). x.slot < z.slot) y ys l (λ i d k. let a : y.slot < (get_or ys i d).slot = above i d k in omega arith)) up)
    (λ e. cond_both (eqb x.slot y.slot) (both x y ∷ ys) (y ∷ put_in x ys) IsAscending
    (λ f. AllPairs-cons (λ (x y : Access). x.slot < y.slot) (both x y) ys above tail)
    (λ f. let l = ltb-false x.slot y.slot e in let n = eqb-false x.slot y.slot f in
    AllPairs-cons (λ (x y : Access). x.slot < y.slot) y (put_in x ys) (put_above y.slot x ys (omega arith) above) (put_ascends x ys tail)))

all_ascend : (xs ys : List Access) → IsAscending ys → IsAscending (put_all xs ys)
unfolding put_all
all_ascend [] ys up = up
all_ascend (x ∷ xs) ys up = put_ascends x (put_all xs ys) (all_ascend xs ys up)

union_ascends : (t : Places) (first n : ℕ) → IsAscending (union_of t first n)
unfolding union_of
union_ascends t first zero = λ i j d l m. absurd (omega arith)
union_ascends t first (suc n) = all_ascend (t (first + n)) (union_of t first n) (union_ascends t first n)

-- ---- a test that holds of an access holds of one with more

-- who passes the test passes it also where the place may do more
abbrev IsKeptBy : (Access → Bool) → Type 0
IsKeptBy f = (x y : Access) → x.slot ≡ y.slot → (f y ≡ true → f (both x y) ≡ true) × (f x ≡ true → f (both x y) ≡ true)

abbrev any_in : (Access → Bool) → List Access → Bool
any_in f [] = false
any_in f (x ∷ xs) = f x || any_in f xs

put_old : (f : Access → Bool) → IsKeptBy f → (x : Access) (ys : List Access) → any_in f ys ≡ true → any_in f (put_in x ys) ≡ true
unfolding put_in
put_old f k x [] h = absurd (both_ways _ refl h)
put_old f k x (y ∷ ys) h =
    cond_both (ltb x.slot y.slot) (x ∷ y ∷ ys) (cond (eqb x.slot y.slot) (both x y ∷ ys) (y ∷ put_in x ys)) (λ zs. any_in f zs ≡ true)
    (λ e. or_right (f x) (f y || any_in f ys) h)
    (λ e. cond_both (eqb x.slot y.slot) (both x y ∷ ys) (y ∷ put_in x ys) (λ zs. any_in f zs ≡ true)
    (λ g. ⊎_elim (λ a. or_left (f (both x y)) (any_in f ys) ((k x y (eqb-true x.slot y.slot g)).0 a)) (λ b. or_right (f (both x y)) (any_in f ys) b) (or_cases (f y) (any_in f ys) h))
    (λ g. ⊎_elim (λ a. or_left (f y) (any_in f (put_in x ys)) a) (λ b. or_right (f y) (any_in f (put_in x ys)) (put_old f k x ys b)) (or_cases (f y) (any_in f ys) h)))

put_new : (f : Access → Bool) → IsKeptBy f → (x : Access) (ys : List Access) → f x ≡ true → any_in f (put_in x ys) ≡ true
unfolding put_in
put_new f k x [] h = or_left (f x) false h
put_new f k x (y ∷ ys) h =
    cond_both (ltb x.slot y.slot) (x ∷ y ∷ ys) (cond (eqb x.slot y.slot) (both x y ∷ ys) (y ∷ put_in x ys)) (λ zs. any_in f zs ≡ true)
    (λ e. or_left (f x) (f y || any_in f ys) h)
    (λ e. cond_both (eqb x.slot y.slot) (both x y ∷ ys) (y ∷ put_in x ys) (λ zs. any_in f zs ≡ true)
    (λ g. or_left (f (both x y)) (any_in f ys) ((k x y (eqb-true x.slot y.slot g)).1 h))
    (λ g. or_right (f y) (any_in f (put_in x ys)) (put_new f k x ys h)))

all_old : (f : Access → Bool) → IsKeptBy f → (xs ys : List Access) → any_in f ys ≡ true → any_in f (put_all xs ys) ≡ true
unfolding put_all
all_old f k [] ys h = h
all_old f k (x ∷ xs) ys h = put_old f k x (put_all xs ys) (all_old f k xs ys h)

all_new : (f : Access → Bool) → IsKeptBy f → (xs ys : List Access) → any_in f xs ≡ true → any_in f (put_all xs ys) ≡ true
unfolding put_all
all_new f k [] ys h = absurd (both_ways _ refl h)
all_new f k (x ∷ xs) ys h = ⊎_elim (λ a. put_new f k x (put_all xs ys) a) (λ b. put_old f k x (put_all xs ys) (all_new f k xs ys b)) (or_cases (f x) (any_in f xs) h)

union_has : (f : Access → Bool) → IsKeptBy f → (t : Places) (first n : ℕ) → any_of (λ p. any_in f (t p)) first n ≡ true → any_in f (union_of t first n) ≡ true
unfolding union_of any_of
union_has f k t first zero h = absurd (both_ways _ refl h)
union_has f k t first (suc n) h = ⊎_elim
    (λ a. all_new f k (t (first + n)) (union_of t first n) a)
    (λ b. all_old f k (t (first + n)) (union_of t first n) (union_has f k t first n b))
    (or_cases (any_in f (t (first + n))) (any_of (λ p. any_in f (t p)) first n) h)

-- ---- the two tests

use_kept : (a : ℕ) → IsKeptBy (λ (x : Access). x.slot == a)
use_kept a x y same = (λ h. h, λ h. ap (λ (s : ℕ). s == a) (sym same) ∙ h)

write_kept : (a : ℕ) → IsKeptBy (λ (x : Access). (x.slot == a) && x.writable)
write_kept a x y same = (
  λ h. let p = and_parts (y.slot == a) y.writable h in and_from (y.slot == a) (x.writable || y.writable) p.0 (or_right x.writable y.writable p.1),
  λ h. let p = and_parts (x.slot == a) x.writable h in and_from (y.slot == a) (x.writable || y.writable) (ap (λ (s : ℕ). s == a) (sym same) ∙ p.0) (or_left x.writable y.writable p.1),
)

uses_is : (a : ℕ) (xs : List Access) → uses_in xs a ≡ any_in (λ (x : Access). x.slot == a) xs
uses_is a [] = refl
uses_is a (x ∷ xs) = ap (λ (b : Bool). (x.slot == a) || b) (uses_is a xs)

writes_is : (a : ℕ) (xs : List Access) → writes_in xs a ≡ any_in (λ (x : Access). (x.slot == a) && x.writable) xs
writes_is a [] = refl
writes_is a (x ∷ xs) = ap (λ (b : Bool). ((x.slot == a) && x.writable) || b) (writes_is a xs)

-- tests that agree find alike
any_same : (f g : ℕ → Bool) (first n : ℕ) → ((p : ℕ) → f p ≡ g p) → any_of f first n ≡ any_of g first n
unfolding any_of
any_same f g first zero e = refl
any_same f g first (suc n) e = λ i. e (first + n) i || any_same f g first n e i

are_unions : (t : Places) (w : ℕ) → AreUnions t w (unions t w)
unfolding uses writes
are_unions t w = record {
  ascend = λ b. union_ascends t (w * b) w;
  used = λ a b h. uses_is a (union_of t (w * b) w) ∙ union_has (λ (x : Access). x.slot == a) (use_kept a) t (w * b) w
      (sym (any_same (λ p. uses_in (t p) a) (λ p. any_in (λ (x : Access). x.slot == a) (t p)) (w * b) w (λ p. uses_is a (t p))) ∙ h);
  written = λ a b h. writes_is a (union_of t (w * b) w) ∙ union_has (λ (x : Access). (x.slot == a) && x.writable) (write_kept a) t (w * b) w
      (sym (any_same (λ p. writes_in (t p) a) (λ p. any_in (λ (x : Access). (x.slot == a) && x.writable) (t p)) (w * b) w (λ p. writes_is a (t p))) ∙ h);
}

-- ---- past the last place

union_none : (t : Places) (first n : ℕ) → ((q : ℕ) → first ≤ q → t q ≡ []) → union_of t first n ≡ []
unfolding union_of put_all
union_none t first zero none = refl
union_none t first (suc n) none = (λ i. put_all (none (first + n) (omega arith) i) (union_none t first n none i))

past : (places w b : ℕ) → 0 < w → bundles places w ≤ b → places ≤ w * b
past places w b some l = let c = bundles_cover places w some in ⊎_elim
    (λ (e : bundles places w ≡ b). subst (λ (k : ℕ). places ≤ w * k) e c)
    (λ (m : bundles places w < b). let k = after_bundle w (bundles places w) b m in omega arith)
    (same_or_less (bundles places w) b l)
  where
    same_or_less : (m n : ℕ) → m ≤ n → (m ≡ n) ⊎ (m < n)
    same_or_less m n l = ⊎_elim (λ e. inl e) (λ o. ⊎_elim (λ a. inr a) (λ b. absurd (omega arith)) o) (cases_order m n)

places_none : (plan : PlanValue) (q : ℕ) → length plan.txs ≤ q → places_of plan.ids plan.txs q ≡ []
unfolding places_of
places_none plan q l = ap (accesses_of plan.ids) (declared_beyond plan.txs q l)

pub can_be_planned : (plan : PlanValue) (w : ℕ) → IsPlan plan → 0 < w
    → BundlesArePlanned (length plan.txs) w (places_of plan.ids plan.txs) (unions (places_of plan.ids plan.txs) w)
    (λ b. length (direct (unions (places_of plan.ids plan.txs) w) b))
    (turned (direct (unions (places_of plan.ids plan.txs) w)) (bundles (length plan.txs) w))
can_be_planned plan w is some = record {
  unions = are_unions (places_of plan.ids plan.txs) w;
  beyond = λ b l. union_none (places_of plan.ids plan.txs) (w * b) w (λ q m. places_none plan q (let a = past (length plan.txs) w b some l in omega arith));
  before_is = λ b l. refl;
  next_is = λ b l. refl;
}
