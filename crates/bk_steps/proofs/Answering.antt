-- A schedule has one answer.
use Rattle.std.proofs.Common.{◌≡◌, ⊎_elim, ℕ, zero, suc, ◌<◌, List, [], ◌∷◌, length, get_or, take, refl, sym, ap, ◌∙◌, subst, arith}
use Rattle.std.proofs.lemmas.Bool.{cases_order}
use Rattle.std.proofs.lemmas.List.{get_or-take, take-take}
use Rattle.bk_conflicts.specs.Scene.{Scene}
use Rattle.bk_steps.specs.Course.{Course, busy, found, opened, IsDone}
use Rattle.bk_steps.specs.Moves.{after_read, after_write, after_finish, Moves, claims, reads_one, writes_one, finishes}
use Rattle.bk_steps.specs.Laws.{RunsAmongAreRuns, WholeRunsHaveNoFault, OneFault}
use Rattle.bk_steps.specs.Refusals.{Allows, Refuses}
use Rattle.bk_steps.specs.Schedule.{RunsAmong, IsFirstRefused, IsLeastLeft, no_event}
use Rattle.bk_steps.specs.declared.event.Event.{Event}
use Rattle.bk_base.specs.declared.refused.Refused as reason
use Rattle.bk_steps.specs.declared.outcome.ScheduleFault.TheVariants.{Refused, Unfinished, OutOfMemory}
use Rattle.bk_steps.proofs.Judging.{allowed_not_refused, one_refusal}

-- ---- an event makes one course of another

same_next : (s : Scene) (d a b : Course) (e : Event) → Moves s d e a → Moves s d e b → a ≡ b
same_next s d a b e (claims w p idle waits inside before) (claims _ _ _ _ _ _) = refl
same_next s d a b e (reads_one w p x rs mine decl) (reads_one _ q _ qs other _) =
    let h : busy p rs [] ≡ busy q qs [] = sym mine ∙ other in
    let e1 : p ≡ q = cc in
    let e2 : rs ≡ qs = cc in
    λ i. after_read d w (e1 i) (e2 i) x
same_next s d a b e (writes_one w p x v rs ws mine all wr fresh value) (writes_one _ q _ u qs us other _ _ _ same) =
    let h : busy p rs ws ≡ busy q qs us = sym mine ∙ other in
    let e1 : p ≡ q = cc in
    let e2 : rs ≡ qs = cc in
    let e3 : ws ≡ us = cc in
    let e4 : v ≡ u = value ∙ ((λ i. s.effect (e1 i) (found (e2 i)) x) ∙ sym same) in
    λ i. after_write d w (e1 i) (e2 i) (e3 i) x (e4 i)
same_next s d a b e (finishes w p st mv rs ws mine all wrote is_st is_mv) (finishes _ q st' mv' qs us other _ _ also_st also_mv) =
    let h : busy p rs ws ≡ busy q qs us = sym mine ∙ other in
    let e1 : p ≡ q = cc in
    let e2 : rs ≡ qs = cc in
    let e3 : st ≡ st' = is_st ∙ ((λ i. s.status (e1 i) (found (e2 i))) ∙ sym also_st) in
    let e4 : mv ≡ mv' = is_mv ∙ ((λ i. s.moved (e1 i) (found (e2 i))) ∙ sym also_mv) in
    λ i. after_finish d w (e1 i) (e3 i) (e4 i)

same_end : (s : Scene) (n : ℕ) (es : List Event) (d a b : Course) → RunsAmong s n d es a → RunsAmong s n d es b → a ≡ b
same_end s n [] d a b e f = e ∙ sym f
same_end s n (e ∷ es) d a b (next, allowed, rest) (other, also, more) =
    same_end s n es other a b (subst (λ (c : Course). RunsAmong s n c es a) (same_next s d next other e allowed.1 also.1) rest) more

pub among_runs : RunsAmongAreRuns
among_runs s n [] d end r = r
among_runs s n (e ∷ es) d end (next, allowed, rest) = (next, allowed.1, among_runs s n es next end rest)

-- ---- a run stops nowhere

-- each event of a run is allowed where those before it lead
allowed_at : (s : Scene) (n : ℕ) (es : List Event) (d end : Course) (i : ℕ) → RunsAmong s n d es end → i < length es
    → (mid : Course) × RunsAmong s n d (take i es) mid × ((next : Course) × Allows s n mid (get_or es i no_event) next)
allowed_at s n [] d end i r l = absurd (omega arith)
allowed_at s n (e ∷ es) d end zero (next, allowed, rest) l = (d, refl, (next, allowed))
allowed_at s n (e ∷ es) d end (suc i) (next, allowed, rest) l =
    let t = allowed_at s n es next end i rest (omega arith) in (t.0, (next, allowed, t.1), t.2)

no_stop : (s : Scene) (n : ℕ) (es : List Event) (d end : Course) (i : ℕ) (why : reason.Refused) → RunsAmong s n d es end
    → IsFirstRefused s n d es i why → ⊥
no_stop s n es d end i why r f =
    let t = allowed_at s n es d end i r f.inside in
    let same = same_end s n (take i es) d t.0 f.course t.1 f.runs in
    allowed_not_refused s n f.course t.2.0 (get_or es i no_event) why
    (subst (λ (c : Course). Allows s n c (get_or es i no_event) t.2.0) same t.2.1) f.refused

pub no_fault : WholeRunsHaveNoFault
no_fault s n es (Refused i why) (end, runs, all) f = absurd (no_stop s n es (opened s) end i why runs f)
no_fault s n es (Unfinished p) (end, runs, all) (other, also, least) =
    absurd (least.left (subst (λ (c : Course). IsDone (c.phase p)) (same_end s n es (opened s) end other runs also) (all p least.inside)))
no_fault s n es OutOfMemory whole f = refl

-- ---- the first fault is one

inside_take : (es : List Event) (i j : ℕ) → i < j → i < length es → i < length (take j es)
inside_take [] i j l m = absurd (omega arith)
inside_take (e ∷ es) i zero l m = absurd (omega arith)
inside_take (e ∷ es) zero (suc j) l m = omega arith
inside_take (e ∷ es) (suc i) (suc j) l m = let h = inside_take es i j (omega arith) (omega arith) in omega arith

-- no event before the first that is refused is refused
none_before : (s : Scene) (n : ℕ) (es : List Event) (d : Course) (i j : ℕ) (why other : reason.Refused) → i < j
    → IsFirstRefused s n d es i why → IsFirstRefused s n d es j other → ⊥
none_before s n es d i j why other l f g = no_stop s n (take j es) d g.course i why g.runs record {
  inside = inside_take es i j l f.inside;
  course = f.course;
  runs = subst (λ (xs : List Event). RunsAmong s n d xs f.course) (sym (take-take i j es (omega arith))) f.runs;
  refused = subst (λ (e : Event). Refuses s n f.course e why) (sym (get_or-take j es i no_event l)) f.refused;
}

one_stop : (s : Scene) (n : ℕ) (es : List Event) (d : Course) (i j : ℕ) (why other : reason.Refused)
    → IsFirstRefused s n d es i why → IsFirstRefused s n d es j other → (i ≡ j) × (why ≡ other)
one_stop s n es d i j why other f g = ⊎_elim
    (λ (e : i ≡ j). (
      e,
      (let h = subst (λ (k : ℕ). IsFirstRefused s n d es k other) (sym e) g in
          let same = same_end s n (take i es) d f.course h.course f.runs h.runs in
          one_refusal s n h.course (get_or es i no_event) why other
          (subst (λ (c : Course). Refuses s n c (get_or es i no_event) why) same f.refused) h.refused),
    ))
    (λ off. ⊎_elim
    (λ l. absurd (none_before s n es d i j why other l f g))
    (λ l. absurd (none_before s n es d j i other why l g f))
    off)
    (cases_order i j)

one_least : (s : Scene) (d : Course) (p q : ℕ) → IsLeastLeft s d p → IsLeastLeft s d q → p ≡ q
one_least s d p q a b = ⊎_elim (λ (e : p ≡ q). e)
    (λ off. ⊎_elim (λ l. absurd (a.left (b.before p l))) (λ l. absurd (b.left (a.before q l))) off)
    (cases_order p q)

pub one_fault : OneFault
one_fault s n es (Refused i why) (Refused j other) f g a b = let t = one_stop s n es (opened s) i j why other f g in λ k. Refused (t.0 k) (t.1 k)
one_fault s n es (Refused i why) (Unfinished q) f (end, runs, least) a b = absurd (no_stop s n es (opened s) end i why runs f)
one_fault s n es (Refused i why) OutOfMemory f g a b = absurd (b refl)
one_fault s n es (Unfinished p) (Refused j other) (end, runs, least) g a b = absurd (no_stop s n es (opened s) end j other runs g)
one_fault s n es (Unfinished p) (Unfinished q) (end, runs, least) (other, also, less) a b =
    let same = same_end s n es (opened s) end other runs also in
    ap Unfinished (one_least s other p q (subst (λ (c : Course). IsLeastLeft s c p) same least) less)
one_fault s n es (Unfinished p) OutOfMemory f g a b = absurd (b refl)
one_fault s n es OutOfMemory other f g a b = absurd (a refl)
