-- What the scene of a plan says of it: this file alone, beside `Setting`, knows how a plan is made.
use mathlib.Core.Logic.{dite}
use native.Mathlib.Decide.{ℕ_discrete}
use Rattle.std.proofs.Common.{◌≡◌, ◌==◌, ◌&&◌, ℕ, ◌+◌, ◌*◌, ◌<◌, suc, List, [], ◌∷◌, ◌++◌, length, map, get_or, true, eq-eqb, sym, subst, refl, ap, ◌∙◌, arith, length-append, append_assoc}
use Rattle.std.proofs.lemmas.Bool.{and_from}
use Rattle.std.proofs.lemmas.List.{get_or_append_left, length-map}
use Rattle.std.proofs.Math.Seq.{get_or-append_seam}
use Rattle.std.proofs.lemmas.List.Folds.{list_any_at}
use Rattle.std.proofs.Math.Seq.{take-suc}
use Rattle.std.specs.Prelude.{take}
use Rattle.bk_rules.specs.declared.account.Account.{Account}
use Rattle.bk_rules.specs.Ledger.{Ledger, numbers_of, slot_numbers}
use Rattle.bk_rules.specs.Rows.{account_at}
use Rattle.bk_conflicts.specs.Scene.{IsSound}
use Rattle.bk_conflicts.specs.SceneOf.{CanRunOn, in_words}
use Rattle.bk_conflicts.specs.Plan.{PlanValue, IsPlan, after_of, before_of}
use Rattle.bk_conflicts.specs.Laws.{ScenesAreSound}
use Rattle.bk_conflicts.specs.declared.words.WordRef.{WordRef}
use Rattle.bk_bank.specs.declared.setting.Setting.{Setting}
use Rattle.bk_bank.specs.private.Laying.{Laid}
use Rattle.bk_bank.specs.Setting.{scene_of, setting_with, words_at, word_at, may_write, no_word}
use Rattle.bk_bank.specs.Steps.{IsLaid}

pub scene_places : (g : Setting) → (scene_of g).places ≡ length g.plan.txs
unfolding scene_of
scene_places g = refl

pub scene_words : (g : Setting) → (scene_of g).words ≡ 2 * length g.plan.ids
unfolding scene_of
scene_words g = refl

pub scene_next : (g : Setting) (p : ℕ) → (scene_of g).next p ≡ after_of g.plan p
unfolding scene_of
scene_next g p = refl

pub scene_sound : ScenesAreSound → (plan : PlanValue) (ledger : Ledger) → IsPlan plan → CanRunOn plan ledger
    → IsSound (scene_of (setting_with plan ledger))
unfolding scene_of
scene_sound law plan ledger k runs = law plan ledger k runs

pub word_declared : (g : Setting) (p i : ℕ) → i < length (words_at g.plan p) → (scene_of g).declares p (word_at g.plan p i) ≡ true
unfolding scene_of
word_declared g p i l = list_any_at (λ (r : WordRef). r.word == word_at g.plan p i) (words_at g.plan p) i no_word l
    (eq-eqb (word_at g.plan p i) (word_at g.plan p i) refl)

pub word_written : (g : Setting) (p i : ℕ) → i < length (words_at g.plan p) → may_write g.plan p i ≡ true
    → (scene_of g).writes p (word_at g.plan p i) ≡ true
unfolding scene_of
word_written g p i l w = list_any_at (λ (r : WordRef). r.writable && (r.word == word_at g.plan p i)) (words_at g.plan p) i no_word l
    (and_from (may_write g.plan p i) (word_at g.plan p i == word_at g.plan p i) w (eq-eqb (word_at g.plan p i) (word_at g.plan p i) refl))

-- the opening words

pub words_append : (xs ys : List Account) → in_words (xs ++ ys) ≡ in_words xs ++ in_words ys
words_append [] ys = refl
words_append (a ∷ xs) ys = ap (λ (zs : List ℕ). a.balance ∷ a.seq ∷ zs) (words_append xs ys)

-- one account more
pub words_step : (xs ws : List ℕ) (ns : List Account) (i : ℕ) (d : Account) → i < length ns → xs ≡ ws ++ in_words (take i ns)
    → (xs ++ (get_or ns i d).balance ∷ []) ++ (get_or ns i d).seq ∷ [] ≡ ws ++ in_words (take (i + 1) ns)
words_step xs ws ns i d low is =
    let a : Account = get_or ns i d in
    let e : suc i ≡ i + 1 = omega arith in
    append_assoc xs (a.balance ∷ []) (a.seq ∷ [])
    ∙ (ap (λ (zs : List ℕ). zs ++ in_words (a ∷ [])) is
    ∙ (append_assoc ws (in_words (take i ns)) (in_words (a ∷ []))
    ∙ ap (λ (zs : List ℕ). ws ++ zs) (sym (words_append (take i ns) (a ∷ []))
    ∙ (ap in_words (sym (take-suc ns i d low)) ∙ ap (λ (n : ℕ). in_words (take n ns)) e))))

pub words_length : (xs : List Account) → length (in_words xs) ≡ 2 * length xs
words_length [] = refl
words_length (a ∷ xs) = let e = words_length xs in omega arith

pub numbers_length : (plan : PlanValue) (ledger : Ledger) → CanRunOn plan ledger → length (slot_numbers ledger) ≡ length plan.ids
numbers_length plan ledger runs = length-map ledger.slots (λ (id : ℕ). numbers_of (account_at ledger.rows id)) ∙ ap length runs.same_slots

pub laid_none : (plan : PlanValue) (ledger : Ledger) → CanRunOn plan ledger → Laid plan ledger (in_words (slot_numbers ledger)) 0
laid_none plan ledger runs = record {
  wide = let a = words_length (slot_numbers ledger) in let b = numbers_length plan ledger runs in omega arith;
  values = λ x l. refl;
  counts = λ q l. absurd (omega arith);
}

-- the count of a place that was just put at the end, or of one before it
laid_here : (plan : PlanValue) (ledger : Ledger) (words : List ℕ) (n q b : ℕ) → Laid plan ledger words n → q ≡ n → b ≡ before_of plan n
    → get_or (words ++ b ∷ []) (2 * length plan.ids + 2 * q) 0 ≡ before_of plan q
laid_here plan ledger words n q b k e is =
    let wide = k.wide in
    let at : length words ≡ 2 * length plan.ids + 2 * q = omega arith in
    subst (λ (x : ℕ). get_or (words ++ b ∷ []) x 0 ≡ b) at (get_or-append_seam words b [] 0) ∙ (is ∙ ap (before_of plan) (sym e))

laid_at : (plan : PlanValue) (ledger : Ledger) (words : List ℕ) (n q b : ℕ) → Laid plan ledger words n → b ≡ before_of plan n → q < n + 1
    → get_or (words ++ b ∷ []) (2 * length plan.ids + 2 * q) 0 ≡ before_of plan q
laid_at plan ledger words n q b k is l =
    let wide = k.wide in
    dite (ℕ_discrete q n)
    (λ e. laid_here plan ledger words n q b k e is)
    (λ other. get_or_append_left words (b ∷ []) 0 (2 * length plan.ids + 2 * q) (omega arith) ∙ k.counts q (omega arith))

pub laid_more : (plan : PlanValue) (ledger : Ledger) (words : List ℕ) (n b : ℕ) → Laid plan ledger words n → b ≡ before_of plan n
    → Laid plan ledger ((words ++ b ∷ []) ++ 0 ∷ []) (n + 1)
laid_more plan ledger words n b k is =
    let wide = k.wide in
    let one : length (words ++ b ∷ []) ≡ length words + 1 = length-append words (b ∷ []) in
    let two : length ((words ++ b ∷ []) ++ 0 ∷ []) ≡ length (words ++ b ∷ []) + 1 = length-append (words ++ b ∷ []) (0 ∷ []) in record {
      wide = omega arith;
      values = λ x l. get_or_append_left (words ++ b ∷ []) (0 ∷ []) 0 x (omega arith)
          ∙ (get_or_append_left words (b ∷ []) 0 x (omega arith) ∙ k.values x l);
      counts = λ q l. get_or_append_left (words ++ b ∷ []) (0 ∷ []) 0 (2 * length plan.ids + 2 * q) (omega arith)
          ∙ laid_at plan ledger words n q b k is l;
    }

pub laid_all : (plan : PlanValue) (ledger : Ledger) (words : List ℕ) → CanRunOn plan ledger → Laid plan ledger words (length plan.txs)
    → IsLaid (scene_of (setting_with plan ledger)) (words ++ 0 ∷ [])
unfolding scene_of
laid_all plan ledger words runs k =
    let wide = k.wide in
    let one : length (words ++ 0 ∷ []) ≡ length words + 1 = length-append words (0 ∷ []) in record {
      wide = omega arith;
      values = λ x l. get_or_append_left words (0 ∷ []) 0 x (omega arith) ∙ (k.values x l
          ∙ ap (λ (ids : List ℕ). get_or (in_words (map (λ (id : ℕ). numbers_of (account_at ledger.rows id)) ids)) x 0) runs.same_slots);
      counts = λ q l. get_or_append_left words (0 ∷ []) 0 (2 * length plan.ids + 2 * q) (omega arith) ∙ k.counts q l;
    }
