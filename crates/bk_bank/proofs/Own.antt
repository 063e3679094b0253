-- From what contracts see of a bank and its seats to their fields, and back.
use Rattle.std.proofs.Common.{◌≡◌, ◌≢◌, ℕ, ◌+◌, ◌*◌, ◌^◌, ◌<◌, ◌≤◌, List, length, get_or, true, sym, ap, ◌∙◌, subst, arith}
use Rattle.atomic_table.specs.Seated.{TableId}
use Rattle.bk_conflicts.specs.Scene.{Scene, IsEdge, IsSound}
use Rattle.bk_bank.specs.declared.setting.Setting.{Setting}
use Rattle.bk_bank.specs.Steps.{IsLaid}
use Rattle.bk_steps.proofs.Owing.{edge_at}
use Rattle.bk_conflicts.specs.declared.words.WordRef.{WordRef}
use Rattle.bk_conflicts.specs.Plan.{PlanValue, after_of}
use Rattle.bk_bank.specs.private.Inside.{IsBank}
use Rattle.bk_bank.specs.private.Closing.{IsClosed}
use Rattle.bk_bank.proofs.Settings.{scene_words, scene_places, scene_next, word_declared}
use Rattle.bk_bank.specs.declared.view.About.{About}
use Rattle.bk_bank.specs.declared.view.View.{View}
use Rattle.bk_bank.specs.Setting.{scene_of, setting_of, words_at, word_at, no_word}
use Rattle.bk_bank.specs.Rule.{view_scene, state_word, width}
use Rattle.bk_bank.specs.Bank.{BankData, bank_data, bank_scene, IsOf}

-- the scene that the table's rule speaks of
abbrev pub inner : About → Scene
inner about = scene_of (setting_of about)

pub same_scene : (b : BankData) (table : TableId) (about : About) → bank_data table about ≡ b → bank_scene b ≡ inner about
same_scene b table about e = sym (ap bank_scene e)

-- a seat of the bank is one of its table, and knows its scene
pub own_inside : (b : BankData) (table t : TableId) (about : About) (v : View) → bank_data table about ≡ b → IsOf b t v
    → (t ≡ table) × (view_scene v ≡ inner about)
own_inside b table t about v e own = (own.0 ∙ sym (ap (λ (x : BankData). x.table) e), own.1 ∙ same_scene b table about e)

-- and is so after a step
pub own_after : (b : BankData) (t t' : TableId) (v w : View) → IsOf b t v → t' ≡ t → view_scene w ≡ view_scene v → IsOf b t' w
own_after b t t' v w own same scene = (same ∙ own.0, scene ∙ own.1)

-- a place of the bank, and its word
pub record IsWordOf (table : TableId) (about : About) (place word : ℕ) : Type 0 where
  pub low : place < (inner about).places
  pub is : word ≡ state_word (inner about) place
  pub more : word + 1 < table.words
  pub inside : word < table.words

pub word_of_place : (b : BankData) (table : TableId) (about : About) (place word : ℕ) → bank_data table about ≡ b
    → place < (bank_scene b).places → word ≡ state_word (bank_scene b) place → word + 1 < b.table.words
    → IsWordOf table about place word
word_of_place b table about place word e low is inside =
    let same = same_scene b table about e in
    let most : word + 1 < table.words = subst (λ (x : BankData). word + 1 < x.table.words) (sym e) inside in record {
      low = subst (λ (s : Scene). place < s.places) same low;
      is = is ∙ ap (λ (s : Scene). state_word s place) same;
      more = most;
      inside = omega (arith, most);
    }

-- the number of words of accounts
pub count_is : (about : About) (plan : PlanValue) (n : ℕ) → about.plan.value ≡ plan → n ≡ 2 * length plan.ids → n ≡ (inner about).words
count_is about plan n same is = is ∙ (ap (λ (g : PlanValue). 2 * length g.ids) (sym same) ∙ sym (scene_words (setting_of about)))

-- the state word of a place, as it is computed
pub record IsComputed (b : BankData) (place n : ℕ) : Type 0 where
  pub fits : n + 2 * place < 2 ^ 64
  pub is : n + 2 * place ≡ state_word (bank_scene b) place
  pub inside : n + 2 * place + 1 < b.table.words

pub computed : (b : BankData) (table : TableId) (about : About) (plan : PlanValue) (place n : ℕ) → bank_data table about ≡ b
    → IsBank table about plan → place < (bank_scene b).places → n ≡ 2 * length plan.ids → IsComputed b place n
computed b table about plan place n e k low is =
    let same = same_scene b table about e in
    let count = count_is about plan n k.same_plan is in
    let wide = k.wide in
    let few = k.few_words in
    let most = k.few_places in
    let below : place < (inner about).places = subst (λ (s : Scene). place < s.places) same low in record {
      fits = omega (arith, count, few, most, below);
      is = ap (λ (m : ℕ). m + 2 * place) count ∙ ap (λ (s : Scene). state_word s place) (sym same);
      inside = subst (λ (x : BankData). n + 2 * place + 1 < x.table.words) e (omega (arith, count, wide, below));
    }

-- the words of a place, as the plan gives them
pub record IsListed (b : BankData) (table : TableId) (place word i : ℕ) : Type 0 where
  pub word_is : word ≡ word_at b.setting.plan place i
  pub declared : (bank_scene b).declares place word ≡ true
  pub inside : word < b.table.words

pub same_plan : (b : BankData) (table : TableId) (about : About) (plan : PlanValue) → bank_data table about ≡ b → IsBank table about plan
    → plan ≡ b.setting.plan
same_plan b table about plan e k = sym k.same_plan ∙ ap (λ (x : BankData). x.setting.plan) e

pub listed : (b : BankData) (table : TableId) (about : About) (plan shown : PlanValue) (place i : ℕ) (words : List WordRef)
    → bank_data table about ≡ b → IsBank table about plan → i < length (words_at b.setting.plan place)
    → words ≡ words_at shown place → shown ≡ plan → IsListed b table place (get_or words i no_word).word i
listed b table about plan shown place i words e k low is same =
    let word : ℕ = (get_or words i no_word).word in
    let here : word ≡ word_at b.setting.plan place i = ap (λ (ws : List WordRef). (get_or ws i no_word).word)
    (is ∙ ap (λ (g : PlanValue). words_at g place) (same ∙ same_plan b table about plan e k)) in
    let decl : (bank_scene b).declares place word ≡ true =
    subst (λ (x : ℕ). (bank_scene b).declares place x ≡ true) (sym here) (word_declared b.setting place i low) in
    let near = k.declared_inside place word (subst (λ (s : Scene). s.declares place word ≡ true) (same_scene b table about e) decl) in
    let wide = k.wide in record {
      word_is = here;
      declared = decl;
      inside = subst (λ (x : BankData). word < x.table.words) e (omega (arith, near, wide));
    }

-- a place of the bank is one of the plan
pub place_of_plan : (b : BankData) (table : TableId) (about : About) (plan shown : PlanValue) (place : ℕ) → bank_data table about ≡ b
    → IsBank table about plan → shown ≡ plan → place < (bank_scene b).places → place < length shown.txs
place_of_plan b table about plan shown place e k same low =
    subst (λ (g : PlanValue). place < length g.txs) (sym (same ∙ same_plan b table about plan e k))
    (subst (λ (n : ℕ). place < n) (scene_places b.setting) low)

-- the successors, as the plan gives them
pub after_listed : (b : BankData) (table : TableId) (about : About) (plan shown : PlanValue) (place : ℕ) (next : List ℕ)
    → bank_data table about ≡ b → IsBank table about plan → next ≡ after_of shown place → shown ≡ plan
    → next ≡ (bank_scene b).next place
after_listed b table about plan shown place next e k is same =
    is ∙ (ap (λ (g : PlanValue). after_of g place) (same ∙ same_plan b table about plan e k) ∙ sym (scene_next b.setting place))

-- each of them is a place
pub after_inside : (b : BankData) (table : TableId) (about : About) (plan : PlanValue) (place k : ℕ) (next : List ℕ)
    → bank_data table about ≡ b → IsBank table about plan → place < (bank_scene b).places → next ≡ (bank_scene b).next place
    → k < length next → get_or next k 0 < (bank_scene b).places
after_inside b table about plan place k next e inv low is room =
    let scene = same_scene b table about e in
    let here : next ≡ (inner about).next place = is ∙ (λ j. (scene j).next place) in
    subst (λ (s : Scene). get_or next k 0 < s.places) (sym scene)
    (subst (λ (xs : List ℕ). get_or xs k 0 < (inner about).places) (sym here)
    (inv.next_inside place _ (edge_at (inner about) place k (subst (λ (s : Scene). place < s.places) scene low)
    (subst (λ (xs : List ℕ). k < length xs) here room))))

-- the next successor that is to be counted down
pub record IsNextOf (s : Scene) (place next q : ℕ) : Type 0 where
  pub room : next < length (s.next place)
  pub is : q ≡ get_or (s.next place) next 0

pub next_of : (s z : Scene) (v : View) (place next : ℕ) (after : List ℕ) → z ≡ s → view_scene v ≡ z → after ≡ z.next place
    → next ≤ length ((view_scene v).next place) → next ≢ length after → IsNextOf s place next (get_or after next 0)
next_of s z v place next after same mine is most other =
    let here : after ≡ s.next place = is ∙ (λ j. (same j).next place) in
    let at_most : next ≤ length (s.next place) = subst (λ (x : Scene). next ≤ length (x.next place)) (mine ∙ same) most in
    let long : length after ≡ length (s.next place) = ap length here in record {
      room = omega arith;
      is = ap (λ (xs : List ℕ). get_or xs next 0) here;
    }

-- how much the plan says there is
pub record IsCounted (b : BankData) (words places : ℕ) : Type 0 where
  pub words_is : words ≡ (bank_scene b).words
  pub places_is : places ≡ (bank_scene b).places

pub counted : (b : BankData) (table : TableId) (about : About) (plan : PlanValue) (words places : ℕ) → bank_data table about ≡ b
    → IsBank table about plan → words ≡ 2 * length plan.ids → places ≡ length plan.txs → IsCounted b words places
counted b table about plan words places e k w p = record {
  words_is = count_is about plan words k.same_plan w ∙ ap (λ (x : BankData). (bank_scene x).words) e;
  places_is = p ∙ (ap (λ (g : PlanValue). length g.txs) (same_plan b table about plan e k) ∙ sym (scene_places b.setting));
}

-- and how many words the closed table has
pub closed_whole : (b : BankData) (table : TableId) (about : About) (plan : PlanValue) (words places count slots : ℕ) → bank_data table about ≡ b
    → IsBank table about plan → IsCounted b words places → count ≡ table.words → slots ≡ table.slots → IsClosed count slots words places
closed_whole b table about plan words places count slots e k n c s =
    let same = same_scene b table about e in
    let w : words ≡ (inner about).words = n.words_is ∙ ap (λ (z : Scene). z.words) same in
    let p : places ≡ (inner about).places = n.places_is ∙ ap (λ (z : Scene). z.places) same in
    let wide = k.wide in
    let few = k.few_words in
    let most = k.few_places in record {
      wide = omega (arith, c, w, p, wide);
      none = s ∙ k.no_slots;
      few_words = omega (arith, w, few);
      few_places = omega (arith, p, most);
    }

-- what a bank is that was made of these words
pub made : (g : Setting) (table : TableId) (about key : About) (plan : PlanValue) (words : List ℕ) → key ≡ about → setting_of about ≡ g
    → g.plan ≡ plan → IsSound (scene_of g) → IsLaid (scene_of g) words → table.words ≡ length words → table.slots ≡ 0
    → IsBank table key plan
made g table about key plan words same setting is sound laid wide none =
    let here : setting_of key ≡ g = ap setting_of same ∙ setting in
    let back : scene_of g ≡ inner key = sym (ap scene_of here) in record {
      same_plan = ap (λ (x : Setting). x.plan) here ∙ is;
      no_slots = none;
      wide = wide ∙ (laid.wide ∙ ap width back);
      few_places = subst (λ (s : Scene). s.places < 2 ^ 31) back sound.few_places;
      few_words = subst (λ (s : Scene). s.words < 2 ^ 32) back sound.few_words;
      declared_inside = subst (λ (s : Scene). (p x : ℕ) → s.declares p x ≡ true → x < s.words) back sound.are_words.words_inside;
      next_inside = subst (λ (s : Scene). (p q : ℕ) → IsEdge s p q → q < s.places) back sound.are_edges.inside;
    }

pub places_are : (b : BankData) (table : TableId) (about : About) (plan : PlanValue) (n : ℕ) → bank_data table about ≡ b
    → IsBank table about plan → n ≡ length plan.txs → n ≡ (bank_scene b).places
places_are b table about plan n e k is =
    is ∙ (ap (λ (g : PlanValue). length g.txs) (same_plan b table about plan e k) ∙ sym (scene_places b.setting))
