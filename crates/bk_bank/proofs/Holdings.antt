-- A holder reads a word of its place, writes one, and writes how much it moved.
use Rattle.std.proofs.Common.{◌≡◌, ◌≢◌, ⊎_elim, ℕ, suc, ◌<◌, List, [], ◌∷◌, get_or, set, Bool, true, false, Some, None, sym, refl, ap, ◌∙◌, subst, arith, get_or-set_other, get_or-set_same}
use Rattle.std.proofs.lemmas.Bool.{cases_eq}
use mathlib.Core.Option.{none, some}
use lib.ListN.{get_elem?}
use lib.Seq.{set-get_or}
use Rattle.atomic_table.specs.Table.{step, keeps, Allows}
use Rattle.bk_conflicts.specs.Scene.{Scene, owed, moved_at}
use Rattle.bk_steps.specs.Course.{Course, held, busy, put, Has}
use Rattle.bk_steps.specs.Moves.{HasReadAll, after_read, after_write, reads_one, writes_one}
use Rattle.bk_steps.specs.declared.event.Event.TheVariants.{Read, Write}
use Rattle.bk_steps.proofs.Tables.{put_here, put_else}
use Rattle.bk_steps.proofs.Found.{effect_fold}
use Rattle.bk_steps.proofs.Written.{read_fold}
use Rattle.bk_steps.proofs.Turns.{keeps_read, keeps_write}
use Rattle.bk_bank.specs.declared.view.Stage.TheVariants.{Holding}
use Rattle.bk_bank.specs.declared.view.View.{View}
use Rattle.bk_bank.specs.Rule.{state_word, moved_word, view_scene, PlaceOk, IsOrdered, Shows}
use Rattle.bk_bank.specs.Plays.{stay, has_read, has_written, has_moved}
use Rattle.bk_bank.specs.Steps.{Turns}
use Rattle.bk_bank.proofs.Stepping.{Table, Sat, step_ok, holding_busy, account_word, reached_by}

pub reads_turn : (s : Scene) (d : Course) (t : Table) (r : Shows s d t) (slots id : ℕ) (me : Sat) (p i : ℕ) (rs : List (ℕ × ℕ))
    → me.0.stage ≡ Holding p rs [] false → view_scene me.0 ≡ s → s.declares p i ≡ true → get_elem? t.views id ≡ some me.0
    → Turns s d t id (Some (Read id i)) i (get_or t.words i 0)
    (λ w. has_read (step slots i 0 0 none) me (get_or t.words i 0) (w, me.1))
reads_turn s d t r slots id me p i rs holds same decl at =
    let v = me.0 in
    let x : ℕ = get_or t.words i 0 in
    let ok = r.each_view id v at in
    let mine = (holding_busy s d r.paid r.leaver t.words id p rs [] false v.stage holds ok.stage).0 in
    let is : x ≡ d.value i = r.values i (r.sound.are_words.words_inside p i decl) in
    let e = set-get_or t.words i 0 in (
      stay v (Holding p ((i, x) ∷ rs) [] false),
      after_read d id p rs i,
      reads_one id p i rs mine decl,
      step_ok s t d r i x id v (stay v (Holding p ((i, x) ∷ rs) [] false)) (after_read d id p rs i) r.paid r.leaver at record {
        kept = keeps_read s r.sound d id p i rs r.kept mine decl;
        values = λ y l. ap (λ (ws : List ℕ). get_or ws y 0) e ∙ r.values y l;
        places = λ q l. subst (λ (ws : List ℕ). PlaceOk (get_or ws (state_word s q) 0) (get_or ws (moved_word s q) 0) (owed s r.paid q) (d.phase q))
            (sym e) (r.each_place q l);
        unpaid = r.unpaid;
        mine = record {
          stage = (
            put_here d.hand id (busy p ((i, d.value i) ∷ rs) []) ∙ ap (λ (z : ℕ). busy p ((i, z) ∷ rs) []) (sym is),
            λ e. absurd (let no : false ≡ true = e in cc),
          );
          scene = λ _. same;
          seen = ok.seen;
        };
        hands = λ j other. put_else d.hand id (busy p ((i, d.value i) ∷ rs) []) j other;
        dones = λ q h. h;
        leaves = λ j q _ _ l. (refl, l);
        moves = λ j q qs ws _ _. ap (λ (l : List ℕ). get_or l (moved_word s q) 0) e;
      },
      (
        refl,
        λ q qs k.
            let u : Holding p rs [] false ≡ Holding q qs [] false = sym holds ∙ k in
            let a : p ≡ q = cc in
            let b : rs ≡ qs = cc in (
              λ j. stay v (Holding (a j) ((i, x) ∷ b j) [] false),
              is ∙ (read_fold s r.sound d id p i rs [] r.kept mine decl (λ z. z) ∙ (λ j. (sym same j).fold (a j) i)),
            ),
      ),
    )

pub reads_at : (s : Scene) (slots id : ℕ) (me : Sat) (p i : ℕ) (rs : List (ℕ × ℕ)) → me.0.stage ≡ Holding p rs [] false
    → view_scene me.0 ≡ s → s.declares p i ≡ true
    → Allows (IsOrdered s) slots id me i (λ x. x) (has_read (step slots i 0 0 none) me)
reads_at s slots id me p i rs holds same decl t k deep at small =
    let u = reads_turn s k.0 t k.2 slots id me p i rs holds same decl at in (u.0, keeps, tt, (u.1, reached_by s k.0 u.1 (Some (Read id i)) k.1 u.2, u.3), u.4)

pub writes_turn : (s : Scene) (d : Course) (t : Table) (r : Shows s d t) (slots id : ℕ) (me : Sat) (p i n : ℕ) (rs : List (ℕ × ℕ)) (ws : List ℕ) (mv : Bool)
    → me.0.stage ≡ Holding p rs ws mv → view_scene me.0 ≡ s → s.writes p i ≡ true → n ≡ s.fold (suc p) i
    → HasReadAll s p rs → ¬ Has ws i → get_elem? t.views id ≡ some me.0
    → Turns s d t id (Some (Write id i)) i n (λ w. has_written (step slots i n 0 none) me n (w, me.1))
writes_turn s d t r slots id me p i n rs ws mv holds same wr is all fresh at =
    let v = me.0 in
    let ok = r.each_view id v at in
    let now = holding_busy s d r.paid r.leaver t.words id p rs ws mv v.stage holds ok.stage in
    let mine = now.0 in
    let inside = r.sound.are_words.words_inside p i (r.sound.are_words.written_declared p i wr) in
    let next : Course = after_write d id p rs ws i n in
    let wide = r.wide in
    let w : View = stay v (Holding p rs (i ∷ ws) mv) in (
      w,
      next,
      writes_one id p i n rs ws mine all wr fresh (is ∙ sym (effect_fold s r.sound p rs i (r.kept.reads id p rs ws mine) all wr)),
      step_ok s t d r i n id v w next r.paid r.leaver at record {
        kept = keeps_write s r.sound d id p i n rs ws r.kept mine wr is;
        values = λ y l. ⊎_elim
            (λ (e : y ≡ i). ap (λ (z : ℕ). get_or (set t.words i n) z 0) e
            ∙ (get_or-set_same t.words i n 0 (omega arith) ∙ sym (ap (put d.value i n) e ∙ put_here d.value i n)))
            (λ (other : y ≢ i). get_or-set_other t.words i y n 0 other ∙ (r.values y l ∙ sym (put_else d.value i n y other)))
            (cases_eq y i);
        places = λ q l. account_word s t d r i n q inside l;
        unpaid = r.unpaid;
        mine = record {
          stage = (put_here d.hand id (busy p rs (i ∷ ws)), λ e. get_or-set_other t.words i (moved_word s p) n 0 (λ e. omega arith) ∙ now.1 e);
          scene = λ _. same;
          seen = ok.seen;
        };
        hands = λ j other. put_else d.hand id (busy p rs (i ∷ ws)) j other;
        dones = λ q h. h;
        leaves = λ j q _ _ l. (refl, l);
        moves = λ j q qs us _ _. get_or-set_other t.words i (moved_word s q) n 0 (λ e. omega arith);
      },
      (
        refl,
        λ q qs us mv' k.
            let u : Holding p rs ws mv ≡ Holding q qs us mv' = sym holds ∙ k in
            let a : p ≡ q = cc in
            let b : rs ≡ qs = cc in
            let c : ws ≡ us = cc in
            let m : mv ≡ mv' = cc in λ j. stay v (Holding (a j) (b j) (i ∷ c j) (m j)),
      ),
    )

pub writes_at : (s : Scene) (slots id : ℕ) (me : Sat) (p i n : ℕ) (rs : List (ℕ × ℕ)) (ws : List ℕ) (mv : Bool)
    → me.0.stage ≡ Holding p rs ws mv → view_scene me.0 ≡ s → s.writes p i ≡ true → n ≡ s.fold (suc p) i
    → HasReadAll s p rs → ¬ Has ws i
    → Allows (IsOrdered s) slots id me i (λ _. n) (λ _. has_written (step slots i n 0 none) me n)
writes_at s slots id me p i n rs ws mv holds same wr is all fresh t k deep at small =
    let u = writes_turn s k.0 t k.2 slots id me p i n rs ws mv holds same wr is all fresh at in (u.0, keeps, tt, (u.1, reached_by s k.0 u.1 (Some (Write id i)) k.1 u.2, u.3), u.4)

-- the moved word of a place shows nothing before the place is done
moved_places : (s : Scene) (d : Course) (t : Table) (r : Shows s d t) (id p i n : ℕ) → i ≡ moved_word s p → d.phase p ≡ held id
    → (q : ℕ) → q < s.places
    → PlaceOk (get_or (set t.words i n) (state_word s q) 0) (get_or (set t.words i n) (moved_word s q) 0) (owed s r.paid q) (d.phase q)
moved_places s d t r id p i n where_ at q l = ⊎_elim
    (λ (e : q ≡ p).
    let f : d.phase q ≡ held id = ap d.phase e ∙ at in
    let k = subst (PlaceOk (get_or t.words (state_word s q) 0) (get_or t.words (moved_word s q) 0) (owed s r.paid q)) f (r.each_place q l) in
    subst (PlaceOk (get_or (set t.words i n) (state_word s q) 0) (get_or (set t.words i n) (moved_word s q) 0) (owed s r.paid q)) (sym f)
    (get_or-set_other t.words i (state_word s q) n 0 (λ e. omega arith) ∙ k.0, k.1))
    (λ (other : q ≢ p). subst (λ (y : ℕ × ℕ). PlaceOk y.0 y.1 (owed s r.paid q) (d.phase q))
    (λ j. (
      sym (get_or-set_other t.words i (state_word s q) n 0 (λ e. omega arith)) j,
      sym (get_or-set_other t.words i (moved_word s q) n 0 (λ e. other (omega arith))) j,
    )) (r.each_place q l))
    (cases_eq q p)

pub moves_turn : (s : Scene) (d : Course) (t : Table) (r : Shows s d t) (slots id : ℕ) (me : Sat) (p i n : ℕ) (rs : List (ℕ × ℕ)) (ws : List ℕ) (mv : Bool)
    → i ≡ moved_word s p → me.0.stage ≡ Holding p rs ws mv → view_scene me.0 ≡ s → n ≡ moved_at s p → get_elem? t.views id ≡ some me.0
    → Turns s d t id None i n (λ w. has_moved (step slots i n 0 none) me n (w, me.1))
moves_turn s d t r slots id me p i n rs ws mv where_ holds same is at =
    let v = me.0 in
    let ok = r.each_view id v at in
    let mine = (holding_busy s d r.paid r.leaver t.words id p rs ws mv v.stage holds ok.stage).0 in
    let there = r.kept.holds id p rs ws mine in
    let inside = there.1 in
    let wide = r.wide in
    let w : View = stay v (Holding p rs ws true) in (
      w,
      d,
      refl,
      step_ok s t d r i n id v w d r.paid r.leaver at record {
        kept = r.kept;
        values = λ y l. get_or-set_other t.words i y n 0 (λ e. omega arith) ∙ r.values y l;
        places = moved_places s d t r id p i n where_ there.0;
        unpaid = r.unpaid;
        mine = record {
          stage = (mine, λ _. ap (λ (z : ℕ). get_or (set t.words i n) z 0) (sym where_) ∙ (get_or-set_same t.words i n 0 (omega arith) ∙ is));
          scene = λ _. same;
          seen = ok.seen;
        };
        hands = λ j other. refl;
        dones = λ q h. h;
        leaves = λ j q _ _ l. (refl, l);
        moves = λ j q qs us other b. get_or-set_other t.words i (moved_word s q) n 0 (λ e.
            let e' : q ≡ p = omega arith in
            let f : held j ≡ held id = sym (r.kept.holds j q qs us b).0 ∙ (ap d.phase e' ∙ there.0) in other (cc));
      },
      (
        refl,
        λ q qs us mv' k.
            let u : Holding p rs ws mv ≡ Holding q qs us mv' = sym holds ∙ k in
            let a : p ≡ q = cc in
            let b : rs ≡ qs = cc in
            let c : ws ≡ us = cc in λ j. stay v (Holding (a j) (b j) (c j) true),
      ),
    )

pub moves_at : (s : Scene) (slots id : ℕ) (me : Sat) (p i n : ℕ) (rs : List (ℕ × ℕ)) (ws : List ℕ) (mv : Bool)
    → i ≡ moved_word s p → me.0.stage ≡ Holding p rs ws mv → view_scene me.0 ≡ s → n ≡ moved_at s p
    → Allows (IsOrdered s) slots id me i (λ _. n) (λ _. has_moved (step slots i n 0 none) me n)
moves_at s slots id me p i n rs ws mv where_ holds same is t k deep at small =
    let u = moves_turn s k.0 t k.2 slots id me p i n rs ws mv where_ holds same is at in (u.0, keeps, tt, (u.1, reached_by s k.0 u.1 None k.1 u.2, u.3), u.4)
