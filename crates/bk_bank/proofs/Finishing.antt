-- A holder leaves its place.
use Rattle.std.proofs.Common.{◌≡◌, ◌≢◌, ⊎_elim, ℕ, ◌+◌, ◌^◌, List, true, Some, sym, refl, ◌∙◌, subst, arith, get_or-set_other}
use Rattle.std.proofs.lemmas.Bool.{cases_eq}
use mathlib.Core.Option.{none, some}
use lib.ListN.{get_elem?}
use Rattle.atomic_table.specs.Table.{step, keeps, Allows}
use Rattle.bk_conflicts.specs.Scene.{Scene, status_at, moved_at}
use Rattle.bk_steps.specs.Course.{Course, done, free, put, IsDone}
use Rattle.bk_steps.specs.Moves.{HasReadAll, HasWrittenAll, after_finish, finishes}
use Rattle.bk_steps.specs.declared.event.Event.TheVariants.{Finish}
use Rattle.bk_steps.proofs.Tables.{put_here, put_else}
use Rattle.bk_steps.proofs.Found.{status_fold, moved_fold}
use Rattle.bk_steps.proofs.Finishes.{keeps_finish}
use Rattle.bk_bank.specs.declared.view.Stage.TheVariants.{Holding, Leaving}
use Rattle.bk_bank.specs.declared.view.View.{View}
use Rattle.bk_bank.specs.Rule.{state_word, moved_word, view_scene, IsOrdered, Shows}
use Rattle.bk_bank.specs.Plays.{stay, finished}
use Rattle.bk_bank.specs.Steps.{Turns}
use Rattle.bk_bank.proofs.Places.{held_owes, held_undone, list_done_later}
use Rattle.bk_bank.proofs.Stepping.{Table, Sat, step_ok, state_changes, holding_busy, reached_by}

pub finishes_turn : (s : Scene) (d : Course) (t : Table) (r : Shows s d t) (slots id : ℕ) (me : Sat) (p i st : ℕ) (rs : List (ℕ × ℕ)) (ws : List ℕ)
    → i ≡ state_word s p → me.0.stage ≡ Holding p rs ws true → view_scene me.0 ≡ s → HasReadAll s p rs → HasWrittenAll s p ws
    → st ≡ status_at s p → get_elem? t.views id ≡ some me.0
    → Turns s d t id (Some (Finish id)) i (2 ^ 63 + st) (λ w. finished (step slots i (2 ^ 63 + st) 0 none) me (2 ^ 63 + st) (w, me.1))
finishes_turn s d t r slots id me p i st rs ws where_ holds same all wrote is at =
    let v = me.0 in
    let n : ℕ = 2 ^ 63 + st in
    let mv : ℕ = moved_at s p in
    let ok = r.each_view id v at in
    let now = holding_busy s d r.paid r.leaver t.words id p rs ws true v.stage holds ok.stage in
    let mine = now.0 in
    let there = r.kept.holds id p rs ws mine in
    let fold = r.kept.reads id p rs ws mine in
    let next : Course = after_finish d id p st mv in
    let leaver : ℕ → ℕ = put r.leaver p id in
    let done_now : IsDone (next.phase p) = subst IsDone (sym (put_here d.phase p (done st mv))) tt in
    let undone : IsDone (d.phase p) → ⊥ = held_undone id (d.phase p) there.0 in
    let apart : (q : ℕ) → IsDone (d.phase q) → q ≢ p = λ q h e. undone (subst (λ (y : ℕ). IsDone (d.phase y)) e h) in
    let dones : (q : ℕ) → IsDone (d.phase q) → IsDone (next.phase q) =
    λ q h. subst IsDone (sym (put_else d.phase p (done st mv) q (apart q h))) h in
    let w : View = stay v (Leaving p 0 0) in (
      w,
      next,
      finishes id p st mv rs ws mine all wrote (is ∙ sym (status_fold s r.sound p rs fold all)) (sym (moved_fold s r.sound p rs fold all)),
      step_ok s t d r i n id v w next r.paid leaver at record {
        kept = keeps_finish s d id p st mv rs ws r.kept mine wrote is refl;
        values = λ y l. get_or-set_other t.words i y n 0 (λ e. omega arith) ∙ r.values y l;
        places = state_changes s t d r i n p (done st mv) where_ there.1
            (refl, now.1 refl, held_owes _ _ id _ _ (r.each_place p there.1) there.0);
        unpaid = λ q h. ⊎_elim
            (λ (e : q ≡ p). absurd (h (subst (λ (y : ℕ). IsDone (next.phase y)) (sym e) done_now)))
            (λ (other : q ≢ p). r.unpaid q (λ a. h (dones q a)))
            (cases_eq q p);
        mine = record {
          stage = (put_here d.hand id free, there.1, done_now, r.unpaid p undone, put_here r.leaver p id);
          scene = λ _. same;
          seen = list_done_later d next v.seen dones ok.seen;
        };
        hands = λ j other. put_else d.hand id free j other;
        dones = dones;
        leaves = λ j q _ h l. (refl, put_else r.leaver p id q (apart q h) ∙ l);
        moves = λ j q qs us _ _. get_or-set_other t.words i (moved_word s q) n 0 (λ e. omega arith);
      },
      (
        refl,
        λ q qs us k.
            let u : Holding p rs ws true ≡ Holding q qs us true = sym holds ∙ k in
            let a : p ≡ q = cc in λ j. stay v (Leaving (a j) 0 0),
      ),
    )

pub finishes_at : (s : Scene) (slots id : ℕ) (me : Sat) (p i st : ℕ) (rs : List (ℕ × ℕ)) (ws : List ℕ)
    → i ≡ state_word s p → me.0.stage ≡ Holding p rs ws true → view_scene me.0 ≡ s → HasReadAll s p rs → HasWrittenAll s p ws
    → st ≡ status_at s p
    → Allows (IsOrdered s) slots id me i (λ _. 2 ^ 63 + st) (λ _. finished (step slots i (2 ^ 63 + st) 0 none) me (2 ^ 63 + st))
finishes_at s slots id me p i st rs ws where_ holds same all wrote is t k deep at small =
    let u = finishes_turn s k.0 t k.2 slots id me p i st rs ws where_ holds same all wrote is at in (u.0, keeps, tt, (u.1, reached_by s k.0 u.1 (Some (Finish id)) k.1 u.2, u.3), u.4)
