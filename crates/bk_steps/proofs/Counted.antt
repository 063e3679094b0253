-- How many places each place still waits for.
use Rattle.std.proofs.Common.{◌≡◌, ◌≢◌, ◌⊎◌, inl, inr, ⊎_elim, Some, ℕ, zero, suc, ◌+◌, ◌-◌, ◌<◌, ◌≤◌, ◌==◌, ◌&&◌, ◌++◌, List, [], ◌∷◌, length, take, drop, get_or, set, take_all, append-nil, replicate, cond, Bool, true, false, eqb, eq-eqb, ne_eqb, nat_lt, sym, refl, ap, ◌∙◌, subst, arith, length-set}
use Rattle.std.specs.List.{list_any}
use Rattle.std.proofs.lemmas.Bool.{cases_eq, cases_lt, cases_Bool, both_ways, or_cases, or_left, or_right, and_parts, and_from, eqb-true, ltb-true, lt-ltb}
use Rattle.std.proofs.lemmas.List.{get_or-set_same, get_or-set_other, get_or_past, nil_from_length, length-drop}
use Rattle.bk_rules.specs.declared.receipt.Receipt.{Receipt}
use Rattle.bk_rules.specs.Ledger.{Ledger, has_slot}
use Rattle.bk_conflicts.specs.Conflicts as conflicts
use Rattle.bk_conflicts.specs.Plan.{PlanValue, before_of, after_of}
use Rattle.bk_conflicts.specs.Scene.{Scene, times, owed_below, IsEdge, IsSound}
use Rattle.bk_conflicts.specs.SceneOf.{scene_of}
use Rattle.bk_steps.specs.Course.{Course, held, IsDone, IsSettled}
use Rattle.bk_steps.specs.Laws.{EdgesAreConflicts}
use Rattle.bk_steps.specs.Machine.{MachineValue, scene_in, phase_of, stage_at, seat_at, Shows, IsMachine}
use Rattle.bk_steps.specs.private.Machine.{is_done, is_waiting, IsFree, released, AreCounts}
use Rattle.bk_steps.specs.declared.stage.Stage.{Stage}
use Rattle.bk_steps.specs.declared.stage.Stage.TheVariants.{Waiting, Held, Done}
use Rattle.bk_steps.proofs.Hands.{busy_shown}
use Rattle.bk_steps.proofs.Owing.{times_drop, times_at, owed_same, owed_term, paid_up, closed}
use Rattle.bk_steps.proofs.Opening.{all_waiting}
use Rattle.bk_steps.proofs.Reached.{sound}
use Rattle.bk_steps.proofs.Running.{done_settled}
use Rattle.bk_steps.proofs.Seated.{done_shown, done_back}

-- ---- what is owed

times_end : (x : ℕ) (xs : List ℕ) → times x (drop (length xs) xs) ≡ 0
unfolding times
times_end x [] = refl
times_end x (y ∷ ys) = times_end x ys

-- once a place has released all its successors, it owes nothing, and all else is owed as before
pub owed_all : (s : Scene) (paid later : ℕ → ℕ) (p q n : ℕ) → p < n → paid p ≡ 0 → later p ≡ length (s.next p)
    → ((r : ℕ) → r ≢ p → later r ≡ paid r)
    → owed_below s paid q n ≡ times q (s.next p) + owed_below s later q n
unfolding owed_below
owed_all s paid later p q zero l none all else_ = absurd (omega arith)
owed_all s paid later p q (suc n) l none all else_ = ⊎_elim
    (λ (e : p ≡ n).
    let a : times q (drop (paid n) (s.next n)) ≡ times q (s.next p) =
    λ i. times q (drop ((ap paid (sym e) ∙ none) i) (s.next (sym e i))) in
    let c : times q (drop (later n) (s.next n)) ≡ times q (drop (length (s.next p)) (s.next p)) =
    λ i. times q (drop ((ap later (sym e) ∙ all) i) (s.next (sym e i))) in
    let z = times_end q (s.next p) in
    let d = owed_same s paid later q n (λ r m. else_ r (λ t. omega arith)) in
    omega arith)
    (λ (other : p ≢ n).
    let a = owed_all s paid later p q n (omega arith) none all else_ in
    let c : times q (drop (later n) (s.next n)) ≡ times q (drop (paid n) (s.next n)) =
    ap (λ (z : ℕ). times q (drop z (s.next n))) (else_ n (λ z. other (sym z))) in
    omega arith)
    (cases_eq p n)

-- where something is owed, some place owes it
owed_some : (s : Scene) (paid : ℕ → ℕ) (q n : ℕ) → owed_below s paid q n ≢ 0
    → (p : ℕ) × (p < n) × (0 < times q (drop (paid p) (s.next p)))
unfolding owed_below
owed_some s paid q zero some = absurd (some refl)
owed_some s paid q (suc n) some = ⊎_elim
    (λ (none : times q (drop (paid n) (s.next n)) ≡ 0).
    let t = owed_some s paid q n (λ z. some (omega arith)) in let l = t.1 in (t.0, omega arith, t.2))
    (λ more. (n, omega arith, omega arith))
    (cases_eq (times q (drop (paid n) (s.next n))) 0)

-- ---- edges are conflicts

any_at : (P : ℕ → Bool) (slots : List ℕ) (id : ℕ) → has_slot slots id ≡ true → P id ≡ true → list_any P slots ≡ true
any_at P [] id there e = absurd (cc)
any_at P (i ∷ slots) id there e = ⊎_elim
    (λ h. or_left (P i) (list_any P slots) (ap P (eqb-true i id h) ∙ e))
    (λ h. or_right (P i) (list_any P slots) (any_at P slots id h e))
    (or_cases (i == id) (list_any (λ (k : ℕ). k == id) slots) there)

has_slot_of : (plan : PlanValue) (id p q : ℕ) → conflicts.clash plan.ids plan.txs id p q ≡ true → has_slot plan.ids id ≡ true
unfolding conflicts.clash
has_slot_of plan id p q e = (and_parts (has_slot plan.ids id) _ e).0

stands : (q : ℕ) (xs : List ℕ) → 0 < times q xs → list_any (λ (x : ℕ). x == q) xs ≡ true
unfolding times
stands q [] l = absurd (omega arith)
stands q (y ∷ ys) l = ⊎_elim
    (λ (e : y ≡ q). or_left (y == q) (list_any (λ (x : ℕ). x == q) ys) (eq-eqb y q e))
    (λ (n : y ≢ q). let c : cond {A = ℕ} (eqb y q) 1 0 ≡ 0 = ap (λ (b : Bool). cond {A = ℕ} b 1 0) (ne_eqb y q n) in
    or_right (y == q) (list_any (λ (x : ℕ). x == q) ys) (stands q ys (omega arith)))
    (cases_eq y q)

pub edges_clash : (m : MachineValue) → IsMachine m → EdgesAreConflicts (scene_in m)
edges_clash m z p q (l, more) = let t = (z.is_plan.edges p q l).0 (stands q (after_of m.plan p) more) in (
  t.1.earlier,
  any_at (λ (id : ℕ). conflicts.clash m.plan.ids m.plan.txs id p q) m.plan.ids t.0 (has_slot_of m.plan t.0 p q t.1.here) t.1.here,
)

-- ---- who is ready

released_at : (plan : PlanValue) (stages : List Stage) (p : ℕ) (b : Bool) → is_done (get_or stages p Waiting) ≡ b
    → released plan stages p ≡ cond b (length (after_of plan p)) 0
released_at plan stages p b e = ap (λ (t : Bool). cond t (length (after_of plan p)) 0) e

-- a place that has released something is done
done_from : (plan : PlanValue) (stages : List Stage) (p : ℕ) → 0 < released plan stages p → is_done (get_or stages p Waiting) ≡ true
done_from plan stages p l = ⊎_elim (λ e. e)
    (λ e. let z = released_at plan stages p false e in absurd (omega arith))
    (cases_Bool (is_done (get_or stages p Waiting)))

pub ready_from : (m : MachineValue) (waits : List ℕ) (p : ℕ) → IsMachine m → AreCounts m.plan m.opening m.stages waits → p < length m.plan.txs
    → is_waiting (stage_at m p) ≡ true → get_or waits p 0 ≡ 0 → IsFree m.plan m.stages p
ready_from m waits p z counts low waits_now none = record {
  inside = low;
  waits = waits_now;
  earlier = λ q l c. done_back (stage_at m q) (subst IsDone (shown.phases q)
      (closed s (λ r. (r ≡ p) ⊎ IsSettled (d.phase r)) (λ r. IsDone (d.phase r)) go (λ r h. inr (done_settled (d.phase r) h))
      q p (k.are_edges.cover q p l low c) (inl refl)));
}
  where
    s : Scene
    s = scene_in m

    k : IsSound s
    k = sound m z

    d : Course
    d = z.course.0

    shown : Shows m d
    shown = z.course.2

    go : (q r : ℕ) → IsEdge s q r → (r ≡ p) ⊎ IsSettled (d.phase r) → IsDone (d.phase q)
    go q r e (inl is) = subst IsDone (sym (shown.phases q)) (done_shown (stage_at m q) (done_from m.plan m.stages q
        (paid_up s (released m.plan m.stages) q p (subst (IsEdge s q) is e) (sym (counts.1 p low) ∙ none))))
    go q r e (inr settled) = let u = edges_clash m z q r e in z.course.1.earlier r q u.0 u.1 settled

pub not_ready_from : (m : MachineValue) (waits : List ℕ) (p : ℕ) → IsMachine m → AreCounts m.plan m.opening m.stages waits → p < length m.plan.txs
    → get_or waits p 0 ≢ 0 → ¬ IsFree m.plan m.stages p
not_ready_from m waits p z counts low some free_ =
    let t = owed_some (scene_in m) (released m.plan m.stages) p (length m.plan.txs) (λ e. some (counts.1 p low ∙ e)) in
    let more = times_drop p (released m.plan m.stages t.0) ((scene_in m).next t.0) in
    let a = t.2 in
    let u = edges_clash m z t.0 p (t.1, omega arith) in
    let e = released_at m.plan m.stages t.0 true (free_.earlier t.0 u.0 u.1) in
    let c : times p (drop (released m.plan m.stages t.0) ((scene_in m).next t.0)) ≡ 0 =
    ap (λ (n : ℕ). times p (drop n ((scene_in m).next t.0))) e ∙ times_end p ((scene_in m).next t.0) in
    omega arith

-- ---- the test of the code

pub ready_parts : (m : MachineValue) (waits : List ℕ) (p : ℕ) (gs : List Stage) (ns : List ℕ) (r : Bool) → IsMachine m → AreCounts m.plan m.opening m.stages waits
    → gs ≡ m.stages → ns ≡ waits
    → r ≡ (nat_lt p (length gs) && (is_waiting (get_or gs p Waiting) && (get_or ns p 0 == 0))) → r ≡ true → IsFree m.plan m.stages p
ready_parts m waits p gs ns r z counts same as_well is yes_ =
    let e : (nat_lt p (length m.stages) && (is_waiting (stage_at m p) && (get_or waits p 0 == 0))) ≡ true =
    subst (λ (t : List Stage × List ℕ). (nat_lt p (length t.0) && (is_waiting (get_or t.0 p Waiting) && (get_or t.1 p 0 == 0))) ≡ true)
    (λ i. (same i, as_well i)) (sym is ∙ yes_) in
    let both = and_parts (nat_lt p (length m.stages)) (is_waiting (stage_at m p) && (get_or waits p 0 == 0)) e in
    let two = and_parts (is_waiting (stage_at m p)) (get_or waits p 0 == 0) both.1 in
    ready_from m waits p z counts (subst (λ (n : ℕ). p < n) z.stages_long (ltb-true p (length m.stages) both.0)) two.0 (eqb-true (get_or waits p 0) 0 two.1)

pub not_ready_parts : (m : MachineValue) (waits : List ℕ) (p : ℕ) (gs : List Stage) (ns : List ℕ) (r : Bool) → IsMachine m → AreCounts m.plan m.opening m.stages waits
    → gs ≡ m.stages → ns ≡ waits
    → r ≡ (nat_lt p (length gs) && (is_waiting (get_or gs p Waiting) && (get_or ns p 0 == 0))) → r ≡ false → ¬ IsFree m.plan m.stages p
not_ready_parts m waits p gs ns r z counts same as_well is off free_ =
    let e : (nat_lt p (length m.stages) && (is_waiting (stage_at m p) && (get_or waits p 0 == 0))) ≡ false =
    subst (λ (t : List Stage × List ℕ). (nat_lt p (length t.0) && (is_waiting (get_or t.0 p Waiting) && (get_or t.1 p 0 == 0))) ≡ false)
    (λ i. (same i, as_well i)) (sym is ∙ off) in
    let low = lt-ltb p (length m.stages) (subst (λ (n : ℕ). p < n) (sym z.stages_long) free_.inside) in
    both_ways _ e (and_from (nat_lt p (length m.stages)) (is_waiting (stage_at m p) && (get_or waits p 0 == 0)) low
    (and_from (is_waiting (stage_at m p)) (get_or waits p 0 == 0) free_.waits
    (⊎_elim (λ (none : get_or waits p 0 ≡ 0). eq-eqb (get_or waits p 0) 0 none)
    (λ (some : get_or waits p 0 ≢ 0). absurd (not_ready_from m waits p z counts free_.inside some free_))
    (cases_eq (get_or waits p 0) 0))))

-- ---- after a claim

not_done : (g : Stage) → is_waiting g ≡ true → is_done g ≡ false
not_done Waiting e = refl
not_done (Held w) e = absurd (cc)
not_done (Done r) e = absurd (cc)

held_same : (plan : PlanValue) (stages : List Stage) (w p : ℕ) → p < length stages → is_waiting (get_or stages p Waiting) ≡ true
    → (r : ℕ) → released plan (set stages p (Held w)) r ≡ released plan stages r
held_same plan stages w p l e r = ⊎_elim
    (λ (is : r ≡ p). released_at plan (set stages p (Held w)) r false
    (ap is_done (ap (λ (i : ℕ). get_or (set stages p (Held w)) i Waiting) is ∙ get_or-set_same stages p (Held w) Waiting l))
    ∙ sym (released_at plan stages r false (ap (λ (i : ℕ). is_done (get_or stages i Waiting)) is ∙ not_done (get_or stages p Waiting) e)))
    (λ (other : r ≢ p). let same : is_done (get_or (set stages p (Held w)) r Waiting) ≡ is_done (get_or stages r Waiting) =
    ap is_done (get_or-set_other stages p r (Held w) Waiting other) in
    ap (λ (b : Bool). cond b (length (after_of plan r)) 0) same)
    (cases_eq r p)

pub claim_counts : (plan : PlanValue) (ledger : Ledger) (stages : List Stage) (waits : List ℕ) (w p : ℕ) → p < length stages
    → is_waiting (get_or stages p Waiting) ≡ true → AreCounts plan ledger stages waits → AreCounts plan ledger (set stages p (Held w)) waits
claim_counts plan ledger stages waits w p l e (long, each) = (
  long,
  λ q m. each q m ∙ sym (owed_same (scene_of plan ledger) (released plan stages) (released plan (set stages p (Held w))) q (length plan.txs)
      (λ r _. held_same plan stages w p l e r)),
)

-- ---- after a finish

held_not_done : (g : Stage) (w : ℕ) → phase_of g ≡ held w → is_done g ≡ false
held_not_done Waiting w e = refl
held_not_done (Held v) w e = refl
held_not_done (Done r) w e = absurd (cc)

-- a place that a worker has is not done
pub held_open : (m : MachineValue) (w p : ℕ) → IsMachine m → (seat_at m w).place ≡ Some p → is_done (stage_at m p) ≡ false
held_open m w p z at = let t = z.course in
    let h = busy_shown m.plan (seat_at m w) p (t.0.hand w) (t.2.hands w) at in
    held_not_done (stage_at m p) w (sym (t.2.phases p) ∙ (t.1.holds w p h.0 h.1 h.2).0)

-- what it owes is in the counts
pub owed_counts : (m : MachineValue) (waits : List ℕ) (p : ℕ) → IsMachine m → AreCounts m.plan m.opening m.stages waits → p < length m.plan.txs
    → is_done (stage_at m p) ≡ false → (q : ℕ) → times q (after_of m.plan p) ≤ get_or waits q 0
owed_counts m waits p z counts low open_ q = ⊎_elim
    (λ (l : q < length m.plan.txs).
    let e = counts.1 q l in
    let t = owed_term (scene_in m) (released m.plan m.stages) p q (length m.plan.txs) low in
    let c : times q (drop (released m.plan m.stages p) (after_of m.plan p)) ≡ times q (after_of m.plan p) =
    ap (λ (n : ℕ). times q (drop n (after_of m.plan p))) (released_at m.plan m.stages p false open_) in
    omega arith)
    (λ (past : length m.plan.txs ≤ q). ⊎_elim
    (λ (none : times q (after_of m.plan p) ≡ 0). omega arith)
    (λ some. let i = (sound m z).are_edges.inside p q (low, omega arith) in absurd (omega arith))
    (cases_eq (times q (after_of m.plan p)) 0))
    (cases_lt q (length m.plan.txs))

pub finish_counts : (m : MachineValue) (waits new : List ℕ) (p : ℕ) (r : Receipt) → IsMachine m → AreCounts m.plan m.opening m.stages waits → p < length m.plan.txs
    → is_done (stage_at m p) ≡ false → length new ≡ length waits
    → ((q : ℕ) → get_or waits q 0 ≡ times q (after_of m.plan p) + get_or new q 0)
    → AreCounts m.plan m.opening (set m.stages p (Done r)) new
finish_counts m waits new p r z (long, each) low open_ same less = (
  same ∙ long,
  λ q l.
      let here : p < length m.stages = subst (λ (n : ℕ). p < n) (sym z.stages_long) low in
      let e = owed_all (scene_in m) (released m.plan m.stages) (released m.plan (set m.stages p (Done r))) p q (length m.plan.txs) low
      (released_at m.plan m.stages p false open_)
      (released_at m.plan (set m.stages p (Done r)) p true (ap is_done (get_or-set_same m.stages p (Done r) Waiting here)))
      (λ t other. ap (λ (b : Bool). cond b (length (after_of m.plan t)) 0) (ap is_done (get_or-set_other m.stages p t (Done r) Waiting other))) in
      let a = each q l in
      let b = less q in
      omega arith,
)

-- ---- the counts that a finish changes

pub one_less : (after waits : List ℕ) (k : ℕ) → k < length after → ((q : ℕ) → times q (drop k after) ≤ get_or waits q 0)
    → (get_or after k 0 < length waits) × (0 < get_or waits (get_or after k 0) 0)
one_less after waits k l fits =
    let x : ℕ = get_or after k 0 in
    let t = times_at x k after l in
    let c : cond {A = ℕ} (eqb x x) 1 0 ≡ 1 = ap (λ (b : Bool). cond {A = ℕ} b 1 0) (eq-eqb x x refl) in
    let f = fits x in
    let some : 0 < get_or waits x 0 = omega arith in (
      ⊎_elim (λ (i : x < length waits). i) (λ (past : length waits ≤ x). let none = get_or_past waits x 0 past in absurd (omega arith)) (cases_lt x (length waits)),
      some,
    )

-- what is left of the list fits, and what was taken is what is missing
pub record IsLess (after old new : List ℕ) (k : ℕ) : Type 0 where
  pub long : length new ≡ length old
  pub fits : (q : ℕ) → times q (drop k after) ≤ get_or new q 0
  pub taken : (q : ℕ) → get_or old q 0 + times q (drop k after) ≡ times q after + get_or new q 0

pub less_more : (after old new : List ℕ) (k : ℕ) → k < length after → IsLess after old new k
    → IsLess after old (set new (get_or after k 0) (get_or new (get_or after k 0) 0 - 1)) (k + 1)
less_more after old new k l h = record {
  long = length-set new (get_or after k 0) (get_or new (get_or after k 0) 0 - 1) ∙ h.long;
  fits = λ q. (step q).0;
  taken = λ q. (step q).1;
}
  where
    here : (get_or after k 0 < length new) × (0 < get_or new (get_or after k 0) 0)
    here = one_less after new k l h.fits

    step : (q : ℕ) → (times q (drop (k + 1) after) ≤ get_or (set new (get_or after k 0) (get_or new (get_or after k 0) 0 - 1)) q 0)
        × (get_or old q 0 + times q (drop (k + 1) after) ≡ times q after + get_or (set new (get_or after k 0) (get_or new (get_or after k 0) 0 - 1)) q 0)
    step q =
        let x : ℕ = get_or after k 0 in
        let t = times_at q k after l in
        let n : times q (drop (k + 1) after) ≡ times q (drop (suc k) after) = ap (λ (i : ℕ). times q (drop i after)) (let e : k + 1 ≡ suc k = omega arith in e) in
        let f = h.fits q in
        let g = h.taken q in
        let some = here.1 in ⊎_elim
        (λ (is : x ≡ q).
        let c : cond {A = ℕ} (eqb x q) 1 0 ≡ 1 = ap (λ (b : Bool). cond {A = ℕ} b 1 0) (eq-eqb x q is) in
        let v : get_or (set new x (get_or new x 0 - 1)) q 0 ≡ get_or new x 0 - 1 =
        ap (λ (i : ℕ). get_or (set new x (get_or new x 0 - 1)) i 0) (sym is) ∙ get_or-set_same new x (get_or new x 0 - 1) 0 here.0 in
        let w : get_or new q 0 ≡ get_or new x 0 = ap (λ (i : ℕ). get_or new i 0) (sym is) in
        (omega arith, omega arith))
        (λ (other : x ≢ q).
        let c : cond {A = ℕ} (eqb x q) 1 0 ≡ 0 = ap (λ (b : Bool). cond {A = ℕ} b 1 0) (ne_eqb x q other) in
        let v : get_or (set new x (get_or new x 0 - 1)) q 0 ≡ get_or new q 0 = get_or-set_other new x q (get_or new x 0 - 1) 0 (λ e. other (sym e)) in
        (omega arith, omega arith))
        (cases_eq x q)

nothing : (q : ℕ) → times q [] ≡ 0
unfolding times
nothing q = refl

pub less_all : (after old new : List ℕ) (k : ℕ) → length after ≤ k → IsLess after old new k
    → (q : ℕ) → get_or old q 0 ≡ times q after + get_or new q 0
less_all after old new k past h q =
    let g = h.taken q in
    let none : times q (drop k after) ≡ 0 = ap (times q) (nil_from_length (drop k after) (let d = length-drop k after in omega arith)) ∙ nothing q in
    omega arith

-- a slice that was changed, back in its list
pub written_back : (new old : List ℕ) (n : ℕ) → length new ≡ length old → n ≡ length old → take n (new ++ drop (length new) old) ≡ new
written_back new old n same is =
    ap (λ (xs : List ℕ). take n (new ++ xs)) (nil_from_length (drop (length new) old) (let d = length-drop (length new) old in omega arith))
    ∙ (ap (take n) (append-nil new) ∙ take_all n new (omega arith))

-- ---- before the first event

none_released : (plan : PlanValue) (n p : ℕ) → released plan (replicate n Waiting) p ≡ 0
none_released plan n p = released_at plan (replicate n Waiting) p false (ap is_done (all_waiting n p))

pub first_counts : (plan : PlanValue) (ledger : Ledger) (stages : List Stage) (waits : List ℕ) → IsSound (scene_of plan ledger)
    → stages ≡ replicate (length plan.txs) Waiting → length waits ≡ length plan.txs
    → ((q : ℕ) → q < length plan.txs → get_or waits q 0 ≡ before_of plan q) → AreCounts plan ledger stages waits
first_counts plan ledger stages waits k same long each = (
  long,
  λ q l. each q l ∙ (k.are_edges.counts q l ∙ sym (owed_same (scene_of plan ledger) (λ _. 0) (released plan stages) q (length plan.txs)
      (λ p _. ap (λ (gs : List Stage). released plan gs p) same ∙ none_released plan (length plan.txs) p))),
)
