-- A step of one seat on one word, and what it leaves as it was.
use Rattle.std.proofs.Common.{◌≡◌, ◌≢◌, ⊎_elim, ℕ, ◌+◌, ◌^◌, ◌<◌, List, length, get_or, set, Bool, true, Option, Some, None, sym, refl, ap, ◌∙◌, subst, arith, length-set, get_or-set_other, get_or-set_same}
use Rattle.std.proofs.lemmas.Bool.{cases_eq}
use mathlib.Core.Option.{some}
use lib.ListN.{get_elem?}
use lib.Seq.{set-get_or}
use Rattle.atomic_table.specs.Table.{State, Me}
use Rattle.bk_conflicts.specs.Scene.{Scene, owed, status_at, moved_at}
use Rattle.bk_steps.specs.Course.{Course, Phase, busy, put, IsDone}
use Rattle.bk_steps.specs.Moves.{IsReached}
use Rattle.bk_steps.specs.Kept.{IsKept}
use Rattle.bk_steps.specs.declared.event.Event.{Event}
use Rattle.bk_steps.proofs.Owing.{owed_most}
use Rattle.bk_steps.proofs.Running.{done_parts, reached_then}
use Rattle.bk_steps.proofs.Tables.{put_here, put_else}
use Rattle.bk_bank.specs.declared.view.Stage.{Stage}
use Rattle.bk_bank.specs.declared.view.Stage.TheVariants.{Holding}
use Rattle.bk_bank.specs.declared.view.View.{View}
use Rattle.bk_bank.specs.Rule.{state_word, moved_word, PlaceOk, StageOk, ViewOk, Shows}
use Rattle.bk_bank.specs.Steps.{MovesBy, table_with}
use Rattle.bk_bank.proofs.Lists.{elem_inside, each_stays}
use Rattle.bk_bank.proofs.Places.{done_words, list_done_later}
use Rattle.bk_bank.proofs.Stages.{stage_stays}

abbrev pub Table : Type 0
Table = State (Unit {0}) View

abbrev pub Sat : Type 0
Sat = Me (Unit {0}) View

-- a step's event leads on
pub reached_by : (s : Scene) (d next : Course) (e : Option Event) → IsReached s d → MovesBy s d e next → IsReached s next
reached_by s d next None reached stays = subst (IsReached s) (sym stays) reached
reached_by s d next (Some e) reached move = reached_then s d next e reached move

-- what a step of the seat id on the word i owes, where the word becomes n, the view w and the course next
pub record IsStep (s : Scene) (t : Table) (d : Course) (r : Shows s d t) (i n id : ℕ) (w : View) (next : Course) (paid leaver : ℕ → ℕ) : Type 0 where
  pub kept : IsKept s next
  pub values : (x : ℕ) → x < s.words → get_or (set t.words i n) x 0 ≡ next.value x
  pub places : (q : ℕ) → q < s.places
      → PlaceOk (get_or (set t.words i n) (state_word s q) 0) (get_or (set t.words i n) (moved_word s q) 0)
      (owed s paid q) (next.phase q)
  pub unpaid : (p : ℕ) → ¬ IsDone (next.phase p) → paid p ≡ 0
  pub mine : ViewOk s next paid leaver (set t.words i n) id w
  pub hands : (j : ℕ) → j ≢ id → next.hand j ≡ d.hand j
  pub dones : (q : ℕ) → IsDone (d.phase q) → IsDone (next.phase q)
  pub leaves : (j q : ℕ) → j ≢ id → IsDone (d.phase q) → r.leaver q ≡ j → (paid q ≡ r.paid q) × (leaver q ≡ j)
  pub moves : (j q : ℕ) (rs : List (ℕ × ℕ)) (ws : List ℕ) → j ≢ id → d.hand j ≡ busy q rs ws
      → get_or (set t.words i n) (moved_word s q) 0 ≡ get_or t.words (moved_word s q) 0

-- then the rule is kept
pub step_ok : (s : Scene) (t : Table) (d : Course) (r : Shows s d t) (i n id : ℕ) (old w : View) (next : Course) (paid leaver : ℕ → ℕ)
    → get_elem? t.views id ≡ some old → IsStep s t d r i n id w next paid leaver → Shows s next (table_with t id i n w)
step_ok s t d r i n id old w next paid leaver at k = record {
  paid = paid;
  leaver = leaver;
  sound = r.sound;
  kept = k.kept;
  wide = length-set t.words i n ∙ r.wide;
  values = k.values;
  each_place = k.places;
  unpaid = k.unpaid;
  each_view = each_stays (ViewOk s next paid leaver (set t.words i n)) t.views id w k.mine (λ j v other e. let o = r.each_view j v e in record {
    stage = stage_stays s d next r.paid paid r.leaver leaver t.words (set t.words i n) j v.stage (k.hands j other) k.dones
        (λ q. k.leaves j q other) (λ q rs ws. k.moves j q rs ws other) o.stage;
    scene = o.scene;
    seen = list_done_later d next v.seen k.dones o.seen;
  });
  beyond = λ j l.
      let same : length (set t.views id w) ≡ length t.views = length-set t.views id w in
      let inside = elem_inside t.views id old at in
      k.hands j (λ e. omega arith) ∙ r.beyond j (omega arith);
}

-- the words stay, and so does all but the view
pub still_ok : (s : Scene) (t : Table) (d : Course) (r : Shows s d t) (i id : ℕ) (old w : View) → get_elem? t.views id ≡ some old
    → ViewOk s d r.paid r.leaver t.words id w → Shows s d (table_with t id i (get_or t.words i 0) w)
still_ok s t d r i id old w at mine =
    let e = set-get_or t.words i 0 in step_ok s t d r i (get_or t.words i 0) id old w d r.paid r.leaver at record {
      kept = r.kept;
      values = λ x l. ap (λ (ws : List ℕ). get_or ws x 0) e ∙ r.values x l;
      places = λ q l. subst (λ (ws : List ℕ). PlaceOk (get_or ws (state_word s q) 0) (get_or ws (moved_word s q) 0) (owed s r.paid q) (d.phase q))
          (sym e) (r.each_place q l);
      unpaid = r.unpaid;
      mine = subst (λ (ws : List ℕ). ViewOk s d r.paid r.leaver ws id w) (sym e) mine;
      hands = λ j _. refl;
      dones = λ q h. h;
      leaves = λ j q _ _ l. (refl, l);
      moves = λ j q rs ws _ _. ap (λ (l : List ℕ). get_or l (moved_word s q) 0) e;
    }

-- the words of p, where p is done
pub words_of_done : (s : Scene) (t : Table) (d : Course) (r : Shows s d t) (p : ℕ) → p < s.places → IsDone (d.phase p)
    → (get_or t.words (state_word s p) 0 ≡ 2 ^ 63 + status_at s p) × (get_or t.words (moved_word s p) 0 ≡ moved_at s p)
words_of_done s t d r p l h =
    let z = done_parts (d.phase p) h in
    let w = done_words _ _ _ _ z.0 z.1 (r.each_place p l) z.2 in
    let is = r.kept.receipts p z.0 z.1 z.2 in
    (w.0 ∙ ap (λ (k : ℕ). 2 ^ 63 + k) is.0, w.1 ∙ is.1)

pub owes_little : (s : Scene) (t : Table) (d : Course) (r : Shows s d t) (p : ℕ) → owed s r.paid p < 2 ^ 32
owes_little s t d r p =
    let a = owed_most s r.paid p s.places in
    let b = r.sound.are_edges.few p in omega arith

-- where the state word of p becomes n, and n shows the phase f, the words of all places show their phases
pub state_changes : (s : Scene) (t : Table) (d : Course) (r : Shows s d t) (i n p : ℕ) (f : Phase) → i ≡ state_word s p → p < s.places
    → PlaceOk n (get_or t.words (moved_word s p) 0) (owed s r.paid p) f
    → (q : ℕ) → q < s.places
    → PlaceOk (get_or (set t.words i n) (state_word s q) 0) (get_or (set t.words i n) (moved_word s q) 0)
    (owed s r.paid q) (put d.phase p f q)
state_changes s t d r i n p f where_ l now q k =
    let wide = r.wide in ⊎_elim
    (λ (e : q ≡ p). subst (λ (y : ℕ × ℕ × ℕ × Phase). PlaceOk y.0 y.1 y.2 y.3)
    (λ j. (
      sym (ap (λ (z : ℕ). get_or (set t.words i n) z 0) (ap (state_word s) e ∙ sym where_) ∙ get_or-set_same t.words i n 0 (omega arith)) j,
      sym (get_or-set_other t.words i (moved_word s q) n 0 (λ e. omega arith) ∙ ap (λ (z : ℕ). get_or t.words (moved_word s z) 0) e) j,
      ap (λ (z : ℕ). owed s r.paid z) (sym e) j,
      sym (ap (put d.phase p f) e ∙ put_here d.phase p f) j,
    )) now)
    (λ (other : q ≢ p). subst (λ (y : ℕ × ℕ × Phase). PlaceOk y.0 y.1 (owed s r.paid q) y.2)
    (λ j. (
      sym (get_or-set_other t.words i (state_word s q) n 0 (λ e. other (omega arith))) j,
      sym (get_or-set_other t.words i (moved_word s q) n 0 (λ e. omega arith)) j,
      sym (put_else d.phase p f q other) j,
    )) (r.each_place q k))
    (cases_eq q p)

-- what a seat's stage says where it holds p
pub holding_busy : (s : Scene) (d : Course) (paid leaver : ℕ → ℕ) (words : List ℕ) (id p : ℕ) (rs : List (ℕ × ℕ)) (ws : List ℕ) (mv : Bool) (st : Stage)
    → st ≡ Holding p rs ws mv → StageOk s d paid leaver words id st
    → (d.hand id ≡ busy p rs ws) × (mv ≡ true → get_or words (moved_word s p) 0 ≡ moved_at s p)
holding_busy s d paid leaver words id p rs ws mv st e h = subst (StageOk s d paid leaver words id) e h

-- a word of an account is none of a place
pub account_word : (s : Scene) (t : Table) (d : Course) (r : Shows s d t) (i n q : ℕ) → i < s.words → q < s.places
    → PlaceOk (get_or (set t.words i n) (state_word s q) 0) (get_or (set t.words i n) (moved_word s q) 0) (owed s r.paid q) (d.phase q)
account_word s t d r i n q low l = subst (λ (y : ℕ × ℕ). PlaceOk y.0 y.1 (owed s r.paid q) (d.phase q))
    (λ j. (
      sym (get_or-set_other t.words i (state_word s q) n 0 (λ e. omega arith)) j,
      sym (get_or-set_other t.words i (moved_word s q) n 0 (λ e. omega arith)) j,
    )) (r.each_place q l)
