-- What a place does to the values of its words, as the bank sees it.
use Rattle.std.proofs.Common.{◌≡◌, ⊎_elim, ℕ, suc, ◌<◌, ◌==◌, ◌&&◌, List, [], ◌∷◌, length, get_or, true, refl, sym, ap, ◌∙◌, subst, arith}
use Rattle.std.specs.List.{list_any}
use Rattle.std.proofs.lemmas.Bool.{eqb-true, or_cases, and_parts}
use Rattle.bk_conflicts.specs.declared.words.WordRef.{WordRef}
use Rattle.bk_rules.specs.declared.receipt.Receipt.{Receipt}
use Rattle.bk_rules.specs.Fold.{rows_before}
use Rattle.bk_rules.specs.Rows.{account_at}
use Rattle.bk_rules.specs.Numbers.{number_of}
use Rattle.bk_rules.specs.View.{nth_id}
use Rattle.bk_conflicts.specs.Conflicts.{declared_at}
use Rattle.bk_conflicts.specs.Plan.{PlanValue, IsPlan}
use Rattle.bk_conflicts.specs.Scene.{IsFolded, status_at, moved_at}
use Rattle.bk_conflicts.specs.SceneOf.{CanRunOn, word_by, accounts_by, accounts_after, tx_at, status_on, moved_on}
use Rattle.bk_conflicts.proofs.Folded.{is_folded}
use Rattle.bk_bank.specs.declared.setting.Setting.{Setting}
use Rattle.bk_bank.specs.Setting.{scene_of, words_at, word_at, may_write, no_word}
use Rattle.bk_bank.specs.Bank.{BankData, bank_scene}
use Rattle.bk_bank.proofs.Settings.{scene_places, word_written}
use Rattle.bk_steps.specs.Settling.{Say, IsLow, AreLow, Does}
use Rattle.bk_pool.specs.Reads.{IsBankOf}
use Rattle.bk_steps.proofs.Settled.{low_before}

pub place_inside : (plan : PlanValue) (b : BankData) → plan ≡ b.setting.plan → (p : ℕ) → p < (bank_scene b).places → p < length plan.txs
place_inside plan b e p l = let n = scene_places b.setting in let s : length plan.txs ≡ length b.setting.plan.txs = ap (λ (q : PlanValue). length q.txs) e in omega arith

pub says_read : (g : Setting) (plan : PlanValue) → plan ≡ g.plan → (p : ℕ) (values : List ℕ)
    → ((k : ℕ) → k < length (words_at g.plan p) → get_or values k 0 ≡ (scene_of g).fold p (word_at g.plan p k))
    → Say ((scene_of g).fold p) plan.ids (declared_at plan.txs p) values
says_read g plan e p values h = λ i. subst (λ (q : PlanValue). i < length (words_at q p) → get_or values i 0 ≡ (scene_of g).fold p (word_at q p i)) (sym e) (h i)

scene_fold : (g : Setting) (p : ℕ) → (scene_of g).fold p ≡ word_by g.plan.ids (account_at (rows_before g.plan.version g.plan.txs p g.opening.rows))
unfolding scene_of
scene_fold g p = refl

scene_effect : (g : Setting) (p : ℕ) (f : ℕ → ℕ) (x : ℕ) → (scene_of g).effect p f x ≡ word_by g.plan.ids (accounts_after g.plan.version (tx_at g.plan p) (accounts_by g.plan.version g.plan.ids f)) x
unfolding scene_of
scene_effect g p f x = refl

scene_status : (g : Setting) (p : ℕ) (f : ℕ → ℕ) → (scene_of g).status p f ≡ number_of (status_on g.plan.version (tx_at g.plan p) (accounts_by g.plan.version g.plan.ids f))
unfolding scene_of
scene_status g p f = refl

scene_moved : (g : Setting) (p : ℕ) (f : ℕ → ℕ) → (scene_of g).moved p f ≡ moved_on g.plan.version (tx_at g.plan p) (accounts_by g.plan.version g.plan.ids f)
unfolding scene_of
scene_moved g p f = refl

scene_folded : (g : Setting) → IsPlan g.plan → CanRunOn g.plan g.opening → IsFolded (scene_of g)
unfolding scene_of
scene_folded g is runs = is_folded g.plan g.opening is runs

pub low_read : (g : Setting) (plan : PlanValue) → plan ≡ g.plan → IsPlan plan → CanRunOn plan g.opening → (p : ℕ) (values : List ℕ)
    → Say ((scene_of g).fold p) plan.ids (declared_at plan.txs p) values → AreLow plan.version plan.ids (declared_at plan.txs p) values
low_read g plan e is runs p values says = (
  (scene_of g).fold p,
  says,
  λ k l. subst (λ (f : ℕ → ℕ). IsLow (accounts_by plan.version plan.ids f (nth_id (declared_at plan.txs p) k)))
      (sym (scene_fold g p ∙ ap (λ (q : PlanValue). word_by q.ids (account_at (rows_before q.version q.txs p g.opening.rows))) (sym e)))
      (low_before plan g.opening is runs p k l),
)

does_here : (g : Setting) (plan : PlanValue) → plan ≡ g.plan → (p : ℕ) (receipt : Receipt) (values : List ℕ)
    → Does plan.version plan.ids (tx_at plan p) ((scene_of g).fold p) receipt values → Does g.plan.version g.plan.ids (tx_at g.plan p) ((scene_of g).fold p) receipt values
does_here g plan e p receipt values d = subst (λ (q : PlanValue). Does q.version q.ids (tx_at q p) ((scene_of g).fold p) receipt values) e d

pub next_values : (g : Setting) (plan : PlanValue) → plan ≡ g.plan → IsPlan plan → CanRunOn plan g.opening → (p : ℕ) (receipt : Receipt) (values : List ℕ)
    → Does plan.version plan.ids (tx_at plan p) ((scene_of g).fold p) receipt values
    → (k : ℕ) → k < length (words_at g.plan p) → may_write g.plan p k ≡ true → get_or values k 0 ≡ (scene_of g).fold (suc p) (word_at g.plan p k)
next_values g plan e is runs p receipt values d k l may =
    let here = does_here g plan e p receipt values d in
    let folded = scene_folded g (subst IsPlan e is) (subst (λ (q : PlanValue). CanRunOn q g.opening) e runs) in
    here.says k l ∙ (sym (scene_effect g p ((scene_of g).fold p) (word_at g.plan p k)) ∙ sym (folded.changed p (word_at g.plan p k) (word_written g p k l may)))

-- ---- at a number that is that of the place

pub says_at : (g : Setting) (plan : PlanValue) → plan ≡ g.plan → (p q : ℕ) (values : List ℕ) → q ≡ p → (n : ℕ) → n ≡ length (words_at plan q)
    → ((k : ℕ) → k < n → get_or values k 0 ≡ (scene_of g).fold p (word_at g.plan p k))
    → Say ((scene_of g).fold q) plan.ids (declared_at plan.txs q) values
says_at g plan e p q values h n long read = subst (λ (z : ℕ). Say ((scene_of g).fold z) plan.ids (declared_at plan.txs z) values) (sym h)
    (says_read g plan e p values (λ k l. read k (let s : length (words_at plan q) ≡ length (words_at g.plan p) = (λ j. length (words_at (e j) (h j))) in omega arith)))

pub next_at : (g : Setting) (plan : PlanValue) → plan ≡ g.plan → IsPlan plan → CanRunOn plan g.opening → (p q : ℕ) → q ≡ p → (receipt : Receipt) (values : List ℕ)
    → Does plan.version plan.ids (tx_at plan q) ((scene_of g).fold q) receipt values
    → (k : ℕ) → k < length (words_at g.plan p) → may_write g.plan p k ≡ true → get_or values k 0 ≡ (scene_of g).fold (suc p) (word_at g.plan p k)
next_at g plan e is runs p q h receipt values d = next_values g plan e is runs p receipt values (subst (λ (z : ℕ). Does plan.version plan.ids (tx_at plan z) ((scene_of g).fold z) receipt values) h d)

pub status_here : (g : Setting) (plan : PlanValue) → plan ≡ g.plan → (p q : ℕ) → q ≡ p → (receipt : Receipt) (values : List ℕ)
    → Does plan.version plan.ids (tx_at plan q) ((scene_of g).fold q) receipt values → number_of receipt.status ≡ status_at (scene_of g) p
status_here g plan e p q h receipt values d = let here = does_here g plan e q receipt values d in
    ap number_of here.status ∙ (sym (scene_status g q ((scene_of g).fold q)) ∙ ap (λ (z : ℕ). status_at (scene_of g) z) h)

pub moved_here : (g : Setting) (plan : PlanValue) → plan ≡ g.plan → (p q : ℕ) → q ≡ p → (receipt : Receipt) (values : List ℕ)
    → Does plan.version plan.ids (tx_at plan q) ((scene_of g).fold q) receipt values → receipt.moved ≡ moved_at (scene_of g) p
moved_here g plan e p q h receipt values d = let here = does_here g plan e q receipt values d in
    here.moved ∙ (sym (scene_moved g q ((scene_of g).fold q)) ∙ ap (λ (z : ℕ). moved_at (scene_of g) z) h)

-- ---- the words of a place

in_words : (xs : List WordRef) (x : ℕ) → list_any (λ r. r.word == x) xs ≡ true → (k : ℕ) × (k < length xs) × ((get_or xs k no_word).word ≡ x)
in_words [] x e = absurd (cc)
in_words (r ∷ rs) x e = ⊎_elim (λ h. (0, omega arith, eqb-true r.word x h)) (λ h. let t = in_words rs x h in let l = t.1 in (suc t.0, omega arith, t.2)) (or_cases (r.word == x) (list_any (λ (r : WordRef). r.word == x) rs) e)

pub declared_word : (g : Setting) (p x : ℕ) → (scene_of g).declares p x ≡ true → (k : ℕ) × (k < length (words_at g.plan p)) × (word_at g.plan p k ≡ x)
unfolding scene_of
declared_word g p x e = in_words (words_at g.plan p) x e

in_writable : (xs : List WordRef) (x : ℕ) → list_any (λ r. r.writable && (r.word == x)) xs ≡ true → (k : ℕ) × (k < length xs) × ((get_or xs k no_word).writable ≡ true) × ((get_or xs k no_word).word ≡ x)
in_writable [] x e = absurd (cc)
in_writable (r ∷ rs) x e = ⊎_elim (λ h. let b = and_parts r.writable (r.word == x) h in (0, omega arith, b.0, eqb-true r.word x b.1)) (λ h. let t = in_writable rs x h in let l = t.1 in (suc t.0, omega arith, t.2, t.3))
    (or_cases (r.writable && (r.word == x)) (list_any (λ (r : WordRef). r.writable && (r.word == x)) rs) e)

pub written_word : (g : Setting) (p x : ℕ) → (scene_of g).writes p x ≡ true → (k : ℕ) × (k < length (words_at g.plan p)) × (may_write g.plan p k ≡ true) × (word_at g.plan p k ≡ x)
unfolding scene_of
written_word g p x e = in_writable (words_at g.plan p) x e

pub claim_inside : (plan : PlanValue) (b : BankData) → IsBankOf plan b → (p : ℕ) → p < length plan.txs → p < (bank_scene b).places
claim_inside plan b is p l = let n = scene_places b.setting in let s : length plan.txs ≡ length b.setting.plan.txs = ap (λ (q : PlanValue). length q.txs) is.same in omega arith
