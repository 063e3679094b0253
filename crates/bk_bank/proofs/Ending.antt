-- The words at the start and at the end.
use Rattle.std.proofs.Common.{◌≡◌, ℕ, ◌+◌, ◌^◌, ◌<◌, ◌≤◌, List, [], get_or, refl, ◌∙◌, subst}
use mathlib.Core.Option.{some}
use lib.ListN.{get_elem?}
use Rattle.atomic_table.specs.Table.{opening}
use Rattle.bk_conflicts.specs.Scene.{Scene, IsSound, status_at}
use Rattle.bk_steps.specs.Course.{Course, Has, IsDone, opened}
use Rattle.bk_steps.proofs.Claims.{keeps_opening}
use Rattle.bk_steps.proofs.Running.{values_at_end}
use Rattle.bk_bank.specs.declared.setting.Setting.{Setting}
use Rattle.bk_bank.specs.declared.view.View.{View}
use Rattle.bk_bank.specs.Setting.{scene_of}
use Rattle.bk_bank.specs.Rule.{state_word, starting, Shows, ViewOk, IsOrdered}
use Rattle.bk_bank.specs.Steps.{IsLaid, AreWordsOf, Ends}
use Rattle.bk_bank.proofs.Lists.{sole}
use Rattle.bk_bank.proofs.Places.{big_done, done_words, list_done_at}
use Rattle.bk_bank.proofs.Stepping.{Table, words_of_done, owes_little}

pub shows_opening : (s : Scene) (g : Setting) (words : List ℕ) → scene_of g ≡ s → IsSound s → IsLaid s words
    → Shows s (opened s) (opening words [] (starting g))
shows_opening s g words same sound laid = record {
  paid = λ _. 0;
  leaver = λ _. 0;
  sound = sound;
  kept = keeps_opening s sound;
  wide = laid.wide;
  values = laid.values;
  each_place = λ q l. laid.counts q l ∙ sound.are_edges.counts q l;
  unpaid = λ p h. refl;
  each_view = λ j v e. subst (ViewOk s (opened s) (λ _. 0) (λ _. 0) words j) (sole (starting g) v j e)
      record { stage = refl; scene = λ _. same; seen = tt };
  beyond = λ j l. refl;
}

pub starts : (s : Scene) (g : Setting) (words : List ℕ) → scene_of g ≡ s → IsSound s → IsLaid s words
    → IsOrdered s (opening words [] (starting g))
starts s g words same sound laid = (opened s, ([], refl), shows_opening s g words same sound laid)

-- the words of the course that they show
shown_words : (s : Scene) (d : Course) (t : Table) → Shows s d t → AreWordsOf s d t.words
shown_words s d t r = record {
  values = r.values;
  is_done = λ p l big. big_done _ _ _ _ (r.each_place p l) (owes_little s t d r p) big;
  receipts = λ p st mv l e. done_words _ _ _ _ st mv (r.each_place p l) e;
}

pub ends : (s : Scene) (ws : List ℕ) (t : Table) → IsOrdered s t → t.words ≡ ws → Ends s ws
ends s ws t k e =
    let d = k.0 in
    let r = k.2 in
    let is_done : (p : ℕ) → p < s.places → 2 ^ 63 ≤ get_or t.words (state_word s p) 0 → IsDone (d.phase p) =
    λ p l big. big_done _ _ _ _ (r.each_place p l) (owes_little s t d r p) big in
    subst (Ends s) e record {
      ran = (d, k.1, shown_words s d t r);
      done = λ p l big. words_of_done s t d r p l (is_done p l big);
      all = λ every x l. r.values x l ∙ values_at_end s r.sound d x r.kept (λ p m. is_done p m (every p m));
    }

-- what a seat saw done is done at the end
pub saw_at_end : (s : Scene) (ws : List ℕ) (id : ℕ) (v : View) (t : Table) → IsOrdered s t → get_elem? t.views id ≡ some v
    → t.words ≡ ws → (p : ℕ) → p < s.places → Has v.seen p → get_or ws (state_word s p) 0 ≡ 2 ^ 63 + status_at s p
saw_at_end s ws id v t k at e p l h =
    let d = k.0 in
    let r = k.2 in
    subst (λ (xs : List ℕ). get_or xs (state_word s p) 0 ≡ 2 ^ 63 + status_at s p) e
    (words_of_done s t d r p l (list_done_at d v.seen p (r.each_view id v at).seen h)).0
