-- A claim of a place.
use Rattle.std.proofs.Common.{◌≡◌, ◌≢◌, inl, inr, ⊎_elim, ℕ, zero, suc, ◌^◌, ◌<◌, List, [], ◌∷◌, get_or, eqb, eq-eqb, ne_eqb, true, false, Some, None, sym, refl, ap, ◌∙◌, subst, arith, get_or-set_other}
use Rattle.std.proofs.lemmas.Bool.{cases_eq, cases_Bool, both_ways}
use mathlib.Core.Option.{none, some}
use lib.ListN.{get_elem?}
use prog.Atomic.{either}
use Rattle.atomic_table.specs.Table.{step, keeps, stepped, Allows}
use Rattle.bk_conflicts.specs.Scene.{Scene, owed}
use Rattle.bk_steps.specs.Course.{Course, waiting, held, free, busy, Has, IsDone}
use Rattle.bk_steps.specs.Moves.{EarlierAreDone, after_claim, claims}
use Rattle.bk_steps.specs.declared.event.Event.TheVariants.{Claim}
use Rattle.bk_steps.proofs.Tables.{put_here, put_else}
use Rattle.bk_steps.proofs.Owing.{paid_up, closed}
use Rattle.bk_steps.proofs.Claims.{keeps_claim}
use Rattle.bk_steps.proofs.Running.{done_settled}
use Rattle.bk_bank.specs.declared.view.Stage.TheVariants.{Holding}
use Rattle.bk_bank.specs.declared.view.View.{View}
use Rattle.bk_bank.specs.Rule.{state_word, moved_word, view_scene, ListDone, IsOrdered, Shows}
use Rattle.bk_bank.specs.Plays.{at_rest, Learns, claimed}
use Rattle.bk_bank.specs.Steps.{Turns}
use Rattle.bk_bank.proofs.Places.{zero_waits, settled_owes, paid_done, waiting_undone, list_done_later}
use Rattle.bk_bank.proofs.Stages.{rest_unspent, rest_free}
use Rattle.bk_bank.proofs.Stepping.{Table, Sat, IsStep, step_ok, still_ok, state_changes, reached_by}
use Rattle.bk_bank.proofs.Looking.{seeing, learns, same_place}

-- where nothing is owed to p, each earlier place in conflict with it is done
pub earlier_done : (s : Scene) (t : Table) (d : Course) (r : Shows s d t) (p : ℕ) → p < s.places → owed s r.paid p ≡ 0
    → EarlierAreDone s d p
earlier_done s t d r p l nil q before c =
    (closed s (λ z. owed s r.paid z ≡ 0) (λ z. (z < s.places) × IsDone (d.phase z))
    (λ a b e z. (e.0, paid_done (d.phase a) (r.paid a) (r.unpaid a) (paid_up s r.paid a b e z)))
    (λ a h. settled_owes _ _ _ _ (r.each_place a h.0) (done_settled (d.phase a) h.1))
    q p (r.sound.are_edges.cover q p before l c) nil).1

-- they make a list
earlier_list : (s : Scene) (d : Course) (p n : ℕ) → ((q : ℕ) → q < n → s.clash q p ≡ true → IsDone (d.phase q))
    → (qs : List ℕ) × ListDone d qs × ((q : ℕ) → q < n → s.clash q p ≡ true → Has qs q)
earlier_list s d p zero h = ([], tt, λ q l c. absurd (omega arith))
earlier_list s d p (suc n) h =
    let more = earlier_list s d p n (λ q l c. h q (omega arith) c) in ⊎_elim
    (λ (hit : s.clash n p ≡ true). (
      n ∷ more.0,
      (h n (omega arith) hit, more.1),
      λ q l c. ⊎_elim
          (λ (e : q ≡ n). inl (sym e))
          (λ (other : q ≢ n). inr (more.2 q (omega arith) c))
          (cases_eq q n),
    ))
    (λ (miss : s.clash n p ≡ false). (
      more.0,
      more.1,
      λ q l c. ⊎_elim
          (λ (e : q ≡ n). absurd (both_ways (s.clash n p) miss (subst (λ (z : ℕ). s.clash z p ≡ true) e c)))
          (λ (other : q ≢ n). more.2 q (omega arith) c)
          (cases_eq q n),
    ))
    (cases_Bool (s.clash n p))

-- the word of p becomes 2^62, and p is held
claim_step : (s : Scene) (d : Course) (t : Table) (r : Shows s d t) (id p : ℕ) (v : View) (qs : List ℕ) → p < s.places
    → d.hand id ≡ free → d.phase p ≡ waiting → owed s r.paid p ≡ 0 → view_scene v ≡ s → ListDone d qs
    → IsStep s t d r (state_word s p) (2 ^ 62) id (seeing v qs (Holding p [] [] false)) (after_claim d id p) r.paid r.leaver
claim_step s d t r id p v qs l idle waits nil same seen =
    let i : ℕ = state_word s p in
    let next : Course = after_claim d id p in
    let dones : (q : ℕ) → IsDone (d.phase q) → IsDone (next.phase q) = λ q h. subst IsDone
    (sym (put_else d.phase p (held id) q (λ e. waiting_undone (d.phase p) waits (subst (λ (y : ℕ). IsDone (d.phase y)) e h)))) h in record {
      kept = keeps_claim s r.sound d id p r.kept idle waits l (earlier_done s t d r p l nil);
      values = λ y k. get_or-set_other t.words i y (2 ^ 62) 0 (λ e. omega arith) ∙ r.values y k;
      places = state_changes s t d r i (2 ^ 62) p (held id) refl l (refl, nil);
      unpaid = λ q h. ⊎_elim
          (λ (e : q ≡ p). ap r.paid e ∙ r.unpaid p (waiting_undone (d.phase p) waits))
          (λ (other : q ≢ p). r.unpaid q (λ a. h (subst IsDone (sym (put_else d.phase p (held id) q other)) a)))
          (cases_eq q p);
      mine = record {
        stage = (put_here d.hand id (busy p [] []), λ e. absurd (let no : false ≡ true = e in cc));
        scene = λ _. same;
        seen = list_done_later d next qs dones seen;
      };
      hands = λ j other. put_else d.hand id (busy p [] []) j other;
      dones = dones;
      leaves = λ j q _ _ k. (refl, k);
      moves = λ j q rs ws _ _. get_or-set_other t.words i (moved_word s q) (2 ^ 62) 0 (λ e. omega arith);
    }

pub claim_turn : (s : Scene) (d : Course) (t : Table) (r : Shows s d t) (slots id : ℕ) (me : Sat) (p : ℕ)
    → get_elem? t.views id ≡ some me.0 → at_rest (view_scene me.0) me.0.stage ≡ true → p < s.places
    → get_or t.words (state_word s p) 0 ≡ 0
    → Turns s d t id (Some (Claim id p)) (state_word s p) (2 ^ 62)
    (λ w. claimed (step slots (state_word s p) 0 (2 ^ 62) none) me (get_or t.words (state_word s p) 0) (w, me.1))
claim_turn s d t r slots id me p at rest l hit =
    let v = me.0 in
    let x : ℕ = get_or t.words (state_word s p) 0 in
    let ok = r.each_view id v at in
    let same = ok.scene (rest_unspent (view_scene v) v.stage rest) in
    let z = zero_waits _ _ _ _ (r.each_place p l) hit in
    let idle = rest_free s d r.paid r.leaver t.words id (view_scene v) v.stage rest ok.stage in
    let before = earlier_done s t d r p l z.1 in
    let list = earlier_list s d p p before in
    let new = learns s t d r p id v list.0 l at same list.1 in
    let w : View = seeing v new.0 (Holding p [] [] false) in (
      w,
      after_claim d id p,
      claims id p idle z.0 l before,
      step_ok s t d r (state_word s p) (2 ^ 62) id v w (after_claim d id p) r.paid r.leaver at
          (claim_step s d t r id p v new.0 l idle z.0 z.1 same new.1),
      (
        refl,
        λ q e. let e' = same_place s (view_scene v) p q same e in (
          subst (λ (y : ℕ). Learns v w y x) e' (new.3 w.stage),
          (λ _. (
            ap (λ (y : ℕ). Holding y [] [] false) e',
            λ a k c. new.2 a (list.2 a (omega arith) (subst (λ (y : Scene × ℕ). y.0.clash a y.1 ≡ true) (λ j. (same j, sym e' j)) c)),
          )),
          (λ n. absurd (n hit)),
        ),
      ),
    )

-- a claim that is refused is a look
pub refuse_turn : (s : Scene) (d : Course) (t : Table) (r : Shows s d t) (slots id : ℕ) (me : Sat) (p : ℕ)
    → get_elem? t.views id ≡ some me.0 → at_rest (view_scene me.0) me.0.stage ≡ true → p < s.places
    → get_or t.words (state_word s p) 0 ≢ 0
    → Turns s d t id None (state_word s p) (get_or t.words (state_word s p) 0)
    (λ w. claimed (step slots (state_word s p) 0 (2 ^ 62) none) me (get_or t.words (state_word s p) 0) (w, me.1))
refuse_turn s d t r slots id me p at rest l miss =
    let v = me.0 in
    let x : ℕ = get_or t.words (state_word s p) 0 in
    let ok = r.each_view id v at in
    let same = ok.scene (rest_unspent (view_scene v) v.stage rest) in
    let new = learns s t d r p id v [] l at same tt in
    let w : View = seeing v new.0 v.stage in (
      w,
      d,
      refl,
      still_ok s t d r (state_word s p) id v w at record { stage = ok.stage; scene = ok.scene; seen = new.1 },
      (
        refl,
        λ q e. (
          subst (λ (y : ℕ). Learns v w y x) (same_place s (view_scene v) p q same e) (new.3 v.stage),
          (λ z. absurd (miss z)),
          λ _. refl,
        ),
      ),
    )

-- whichever it is
claims_word : (s : Scene) (slots id : ℕ) (me : Sat) (p : ℕ) → at_rest (view_scene me.0) me.0.stage ≡ true → p < s.places
    → Allows (IsOrdered s) slots id me (state_word s p) (λ x. either (eqb x 0) (2 ^ 62) x)
    (claimed (step slots (state_word s p) 0 (2 ^ 62) none) me)
claims_word s slots id me p rest l t k deep at small =
    let i : ℕ = state_word s p in
    let x : ℕ = get_or t.words i 0 in ⊎_elim
    (λ (hit : x ≡ 0). let u = claim_turn s k.0 t k.2 slots id me p at rest l hit in
    (u.0, keeps, tt, subst (λ b. IsOrdered s (stepped t i (either b (2 ^ 62) x) id me.1 u.0 keeps)) (sym (eq-eqb x 0 hit)) (u.1, reached_by s k.0 u.1 (Some (Claim id p)) k.1 u.2, u.3), u.4))
    (λ (miss : x ≢ 0). let u = refuse_turn s k.0 t k.2 slots id me p at rest l miss in
    (u.0, keeps, tt, subst (λ b. IsOrdered s (stepped t i (either b (2 ^ 62) x) id me.1 u.0 keeps)) (sym (ne_eqb x 0 miss)) (u.1, reached_by s k.0 u.1 None k.1 u.2, u.3), u.4))
    (cases_eq x 0)

pub claims_at : (s : Scene) (slots id : ℕ) (me : Sat) (p i : ℕ) → i ≡ state_word s p
    → at_rest (view_scene me.0) me.0.stage ≡ true → p < s.places
    → Allows (IsOrdered s) slots id me i (λ x. either (eqb x 0) (2 ^ 62) x) (claimed (step slots i 0 (2 ^ 62) none) me)
claims_at s slots id me p i e rest l =
    subst (λ (i : ℕ). Allows (IsOrdered s) slots id me i (λ x. either (eqb x 0) (2 ^ 62) x) (claimed (step slots i 0 (2 ^ 62) none) me)) (sym e)
    (claims_word s slots id me p rest l)
