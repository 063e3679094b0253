-- A look at a state word.
use Rattle.std.proofs.Common.{◌≡◌, inl, inr, ⊎_elim, ℕ, ◌+◌, ◌*◌, ◌^◌, ◌<◌, ◌≤◌, List, [], ◌∷◌, ◌++◌, get_or, true, None, sym, refl, ap, ◌∙◌, subst, arith}
use Rattle.std.proofs.lemmas.Bool.{cases_lt}
use mathlib.Core.Option.{none, some}
use lib.ListN.{get_elem?}
use Rattle.atomic_table.specs.Table.{step, keeps, Allows}
use Rattle.bk_conflicts.specs.Scene.{Scene, status_at}
use Rattle.bk_steps.specs.Course.{Course, Has, IsDone}
use Rattle.bk_bank.specs.declared.view.Stage.{Stage}
use Rattle.bk_bank.specs.declared.view.View.{View}
use Rattle.bk_bank.specs.Rule.{state_word, view_scene, ListDone, IsOrdered, Shows}
use Rattle.bk_bank.specs.Plays.{at_rest, Learns, looked}
use Rattle.bk_bank.specs.Steps.{Turns}
use Rattle.bk_bank.proofs.Lists.{has_left, has_right}
use Rattle.bk_bank.proofs.Places.{big_done, list_done_at, list_done_both}
use Rattle.bk_bank.proofs.Stages.{rest_unspent}
use Rattle.bk_bank.proofs.Stepping.{Table, Sat, still_ok, words_of_done, owes_little, reached_by}

-- a view with these places seen, at this stage
abbrev pub seeing : View → List ℕ → Stage → View
seeing v qs st = record { setting = v.setting; seen = qs; stage = st }

-- the view after a look at the state word of p, with more places that are known to be done
pub learns : (s : Scene) (t : Table) (d : Course) (r : Shows s d t) (p id : ℕ) (v : View) (more : List ℕ) → p < s.places
    → get_elem? t.views id ≡ some v → view_scene v ≡ s → ListDone d more
    → (seen : List ℕ) × ListDone d seen × ((q : ℕ) → Has more q → Has seen q)
    × ((st : Stage) → Learns v (seeing v seen st) p (get_or t.words (state_word s p) 0))
learns s t d r p id v more l at same dones =
    let n : ℕ = get_or t.words (state_word s p) 0 in
    let old = (r.each_view id v at).seen in
    let shown : IsDone (d.phase p) → n ≡ 2 ^ 63 + status_at (view_scene v) p =
    λ h. (words_of_done s t d r p l h).0 ∙ ap (λ (z : Scene). 2 ^ 63 + status_at z p) (sym same) in
    let both = list_done_both d more v.seen dones old in ⊎_elim
    (λ (small : n < 2 ^ 63). (
      more ++ v.seen,
      both,
      (λ q a. has_left more v.seen q a),
      λ st. record {
        setting = refl;
        grows = λ q a. has_right more v.seen q a;
        known = λ a. shown (list_done_at d v.seen p old a);
        done = λ big. absurd (omega arith);
      },
    ))
    (λ (big : 2 ^ 63 ≤ n). let h = big_done _ _ _ _ (r.each_place p l) (owes_little s t d r p) big in (
      p ∷ (more ++ v.seen),
      (h, both),
      (λ q a. inr (has_left more v.seen q a)),
      λ st. record {
        setting = refl;
        grows = λ q a. inr (has_right more v.seen q a);
        known = λ a. shown (list_done_at d v.seen p old a);
        done = λ _. (shown h, inl refl);
      },
    ))
    (cases_lt n (2 ^ 63))

word_place : (a b p q : ℕ) → a ≡ b → a + 2 * p ≡ b + 2 * q → p ≡ q
word_place a b p q e h = omega arith

-- one state word is of one place
pub same_place : (s z : Scene) (p q : ℕ) → z ≡ s → state_word s p ≡ state_word z q → p ≡ q
same_place s z p q e h = word_place s.words z.words p q (ap (λ (y : Scene). y.words) (sym e)) h

pub look_turn : (s : Scene) (d : Course) (t : Table) (r : Shows s d t) (slots id : ℕ) (me : Sat) (p : ℕ)
    → get_elem? t.views id ≡ some me.0 → at_rest (view_scene me.0) me.0.stage ≡ true → p < s.places
    → Turns s d t id None (state_word s p) (get_or t.words (state_word s p) 0)
    (λ w. looked (step slots (state_word s p) 0 0 none) me (get_or t.words (state_word s p) 0) (w, me.1))
look_turn s d t r slots id me p at rest l =
    let v = me.0 in
    let ok = r.each_view id v at in
    let same = ok.scene (rest_unspent (view_scene v) v.stage rest) in
    let new = learns s t d r p id v [] l at same tt in
    let w : View = seeing v new.0 v.stage in (
      w,
      d,
      refl,
      still_ok s t d r (state_word s p) id v w at record { stage = ok.stage; scene = ok.scene; seen = new.1 },
      (refl, λ q e. (subst (λ (z : ℕ). Learns v w z (get_or t.words (state_word s p) 0)) (same_place s (view_scene v) p q same e) (new.3 v.stage), refl)),
    )

pub looks_at : (s : Scene) (slots id : ℕ) (me : Sat) (p i : ℕ) → i ≡ state_word s p
    → at_rest (view_scene me.0) me.0.stage ≡ true → p < s.places
    → Allows (IsOrdered s) slots id me i (λ x. x) (looked (step slots i 0 0 none) me)
looks_at s slots id me p i e rest l =
    subst (λ (i : ℕ). Allows (IsOrdered s) slots id me i (λ x. x) (looked (step slots i 0 0 none) me)) (sym e)
    (λ t k deep at small. let u = look_turn s k.0 t k.2 slots id me p at rest l in (u.0, keeps, tt, (u.1, reached_by s k.0 u.1 None k.1 u.2, u.3), u.4))
