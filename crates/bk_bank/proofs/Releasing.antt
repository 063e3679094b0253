-- A seat that left its place counts down the next successor.
use Rattle.std.proofs.Common.{◌≡◌, ◌≢◌, ⊎_elim, ℕ, suc, ◌+◌, ◌-◌, ◌%◌, ◌^◌, ◌<◌, List, length, get_or, set, cond, Bool, eqb, eq-eqb, ne_eqb, None, sym, refl, ap, ◌∙◌, subst, arith, get_or-set_other, get_or-set_same}
use Rattle.std.proofs.lemmas.Bool.{cases_eq}
use mathlib.Core.Option.{none, some}
use lib.ListN.{get_elem?}
use Rattle.atomic_table.specs.Table.{step, keeps, Allows}
use Rattle.bk_conflicts.specs.Scene.{Scene, owed}
use Rattle.bk_steps.specs.Course.{Course, put, IsDone}
use Rattle.bk_steps.proofs.Tables.{put_here, put_else}
use Rattle.bk_steps.proofs.Owing.{owed_release, edge_at}
use Rattle.bk_bank.specs.declared.view.Stage.{Stage}
use Rattle.bk_bank.specs.declared.view.Stage.TheVariants.{Leaving}
use Rattle.bk_bank.specs.declared.view.View.{View}
use Rattle.bk_bank.specs.Rule.{state_word, moved_word, view_scene, PlaceOk, StageOk, IsOrdered, Shows}
use Rattle.bk_bank.specs.Plays.{stay, released}
use Rattle.bk_bank.specs.Steps.{Turns}
use Rattle.bk_bank.proofs.Places.{owing_waits}
use Rattle.bk_bank.proofs.Stepping.{Table, Sat, step_ok, reached_by}

leaving_stage : (s : Scene) (d : Course) (paid leaver : ℕ → ℕ) (words : List ℕ) (id p k f : ℕ) (st : Stage) → st ≡ Leaving p k f
    → StageOk s d paid leaver words id st → StageOk s d paid leaver words id (Leaving p k f)
leaving_stage s d paid leaver words id p k f st e h = subst (StageOk s d paid leaver words id) e h

-- the count of q goes down by one, and p has released one more
release_places : (s : Scene) (d : Course) (t : Table) (r : Shows s d t) (p k i n q : ℕ) → i ≡ state_word s q → q ≡ get_or (s.next p) k 0
    → q < s.places → p < s.places → r.paid p ≡ k → k < length (s.next p)
    → PlaceOk n (get_or t.words (moved_word s q) 0) (owed s (put r.paid p (suc k)) q) (d.phase q)
    → (a : ℕ) → a < s.places
    → PlaceOk (get_or (set t.words i n) (state_word s a) 0) (get_or (set t.words i n) (moved_word s a) 0)
    (owed s (put r.paid p (suc k)) a) (d.phase a)
release_places s d t r p k i n q where_ is low inside paid room now a l =
    let wide = r.wide in ⊎_elim
    (λ (e : a ≡ q). subst (λ (y : ℕ × ℕ × ℕ). PlaceOk y.0 y.1 (owed s (put r.paid p (suc k)) y.2) (d.phase y.2))
    (λ j. (
      sym (ap (λ (z : ℕ). get_or (set t.words i n) z 0) (ap (state_word s) e ∙ sym where_) ∙ get_or-set_same t.words i n 0 (omega arith)) j,
      sym (get_or-set_other t.words i (moved_word s a) n 0 (λ e. omega arith) ∙ ap (λ (z : ℕ). get_or t.words (moved_word s z) 0) e) j,
      sym e j,
    )) now)
    (λ (other : a ≢ q).
    let none_more : cond {A = ℕ} (eqb (get_or (s.next p) k 0) a) 1 0 ≡ 0 =
    ap (λ (z : Bool). cond {A = ℕ} z 1 0) (ne_eqb (get_or (s.next p) k 0) a (λ e. other (sym (is ∙ e)))) in
    let same : owed s r.paid a ≡ owed s (put r.paid p (suc k)) a =
    let b = owed_release s r.paid p a k s.places inside paid room in omega arith in
    subst (λ (y : ℕ × ℕ × ℕ). PlaceOk y.0 y.1 y.2 (d.phase a))
    (λ j. (
      sym (get_or-set_other t.words i (state_word s a) n 0 (λ e. other (omega arith))) j,
      sym (get_or-set_other t.words i (moved_word s a) n 0 (λ e. omega arith)) j,
      same j,
    )) (r.each_place a l))
    (cases_eq a q)

pub releases_turn : (s : Scene) (d : Course) (t : Table) (r : Shows s d t) (slots id : ℕ) (me : Sat) (p k f i : ℕ)
    → i ≡ state_word s (get_or (s.next p) k 0) → me.0.stage ≡ Leaving p k f → view_scene me.0 ≡ s → k < length (s.next p)
    → get_elem? t.views id ≡ some me.0 → get_or t.words i 0 < 2 ^ 64
    → Turns s d t id None i ((get_or t.words i 0 + (2 ^ 64 - 1)) % 2 ^ 64) (λ w. released (step slots i 1 0 none) me (get_or t.words i 0) (w, me.1))
releases_turn s d t r slots id me p k f i where_ leaves same room at small =
    let v = me.0 in
    let q : ℕ = get_or (s.next p) k 0 in
    let ok = r.each_view id v at in
    let mine = leaving_stage s d r.paid r.leaver t.words id p k f v.stage leaves ok.stage in
    let low = r.sound.are_edges.inside p q (edge_at s p k mine.1 room) in
    let paid : ℕ → ℕ = put r.paid p (suc k) in
    let one : cond {A = ℕ} (eqb q q) 1 0 ≡ 1 = ap (λ (z : Bool). cond {A = ℕ} z 1 0) (eq-eqb q q refl) in
    let less = owed_release s r.paid p q k s.places mine.1 mine.3 room in
    let waits = owing_waits _ _ _ _ (r.each_place q low) (omega arith) in
    let here : get_or t.words i 0 ≡ owed s r.paid q = ap (λ (z : ℕ). get_or t.words z 0) where_ ∙ waits.1 in
    let x : ℕ = get_or t.words i 0 in
    let n : ℕ = (x + 18446744073709551615) % 18446744073709551616 in
    let fits : x < 18446744073709551616 = small in
    let now : n ≡ owed s paid q = omega arith in
    let w : View = stay v (Leaving p (suc k) x) in (
      w,
      d,
      refl,
      step_ok s t d r i n id v w d paid r.leaver at record {
        kept = r.kept;
        values = λ y l. get_or-set_other t.words i y n 0 (λ e. omega arith) ∙ r.values y l;
        places = release_places s d t r p k i n q where_ refl low mine.1 mine.3 room
            (subst (PlaceOk n (get_or t.words (moved_word s q) 0) (owed s paid q)) (sym waits.0) now);
        unpaid = λ a h. put_else r.paid p (suc k) a (λ e. h (subst (λ (y : ℕ). IsDone (d.phase y)) (sym e) mine.2)) ∙ r.unpaid a h;
        mine = record {
          stage = (mine.0, mine.1, mine.2, put_here r.paid p (suc k), mine.4);
          scene = λ _. same;
          seen = ok.seen;
        };
        hands = λ j other. refl;
        dones = λ a h. h;
        leaves = λ j a other _ l. (put_else r.paid p (suc k) a (λ e. other (sym l ∙ (ap r.leaver e ∙ mine.4))), l);
        moves = λ j a qs us _ _. get_or-set_other t.words i (moved_word s a) n 0 (λ e. omega arith);
      },
      (
        refl,
        λ a b c h.
            let u : Leaving p k f ≡ Leaving a b c = sym leaves ∙ h in
            let e1 : p ≡ a = cc in
            let e2 : k ≡ b = cc in (λ j. stay v (Leaving (e1 j) (suc (e2 j)) x), omega arith),
      ),
    )

pub releases_at : (s : Scene) (slots id : ℕ) (me : Sat) (p k f i : ℕ) → i ≡ state_word s (get_or (s.next p) k 0)
    → me.0.stage ≡ Leaving p k f → view_scene me.0 ≡ s → k < length (s.next p)
    → Allows (IsOrdered s) slots id me i (λ x. (x + (2 ^ 64 - 1)) % 2 ^ 64) (released (step slots i 1 0 none) me)
releases_at s slots id me p k f i where_ leaves same room t y deep at small =
    let u = releases_turn s y.0 t y.2 slots id me p k f i where_ leaves same room at small in (u.0, keeps, tt, (u.1, reached_by s y.0 u.1 None y.1 u.2, u.3), u.4)
