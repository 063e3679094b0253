-- What the words of all places show is what the transactions give one at a time.
use Rattle.std.proofs.Common.{◌≡◌, ℕ, ◌*◌, ◌^◌, ◌<◌, List, [], ◌++◌, length, get_or, Option, None, Some, refl, sym, ap, ◌∙◌, subst, arith, take_all}
use Rattle.std.proofs.lemmas.List.{ext_get_or}
use Rattle.std.specs.Prelude.{slice_get}
use Rattle.std.proofs.lemmas.Option.{get_or_from_slice_get, slice_get_within}
use Rattle.bk_base.specs.declared.genesis.Row.{Row}
use Rattle.bk_base.specs.declared.version.Version.{Version}
use Rattle.bk_base.specs.Genesis.{total_of}
use Rattle.bk_tx.specs.Transaction.{Transaction}
use Rattle.bk_rules.specs.declared.receipt.Receipt.{Receipt}
use Rattle.bk_rules.specs.declared.receipt.Status.{Status}
use Rattle.bk_rules.specs.Fold.{state_after, receipts_of, rows_before, outcome_at}
use Rattle.bk_rules.specs.Ledger.{Ledger, ledger_of, rows_shown, in_pairs}
use Rattle.bk_rules.specs.Numbers.{number_of, status_with}
use Rattle.bk_rules.specs.Rows.{account_at, outcome_of}
use Rattle.bk_rules.proofs.Folding.{ledger_kept_by_fold, length-receipts, receipt_of_place}
use Rattle.bk_conflicts.specs.Plan.{PlanValue, IsPlan}
use Rattle.bk_conflicts.specs.Scene.{status_at, moved_at}
use Rattle.bk_conflicts.specs.SceneOf.{CanRunOn, word_by, accounts_by, tx_at, status_on, moved_on}
use Rattle.bk_conflicts.specs.SceneOf as executions
use Rattle.bk_conflicts.proofs.Opening.{all_there}
use Rattle.bk_conflicts.proofs.Ran.{said_agrees}
use Rattle.bk_conflicts.proofs.Said.{DoesSame, does_same}
use Rattle.bk_conflicts.proofs.Shown.{words_show}
use Rattle.bk_bank.specs.Setting.{scene_of, setting_with}
use Rattle.bk_bank.specs.Words.{WordsData, AllFinished}
use Rattle.bk_steps.specs.declared.outcome.Outcome.{Outcome}
use Rattle.bk_steps.specs.Schedule.{IsFoldOf}
use Rattle.bk_pool.specs.Outcomes.{IsClosed, IsFoldOnto}
use Rattle.bk_pool.specs.private.Receipts.{receipt_at, no_receipt, AreReceipts, AreAdded}
use Rattle.bk_pool.proofs.Ended.{status_again, done_at}

-- ---- the accounts

-- words that are the fold's after all places show the accounts after all transactions
pub last_rows : (plan : PlanValue) (ledger : Ledger) → IsPlan plan → CanRunOn plan ledger → (xs : List ℕ) → length xs ≡ 2 * length plan.ids
    → ((x : ℕ) → x < length xs → get_or xs x 0 ≡ (scene_of (setting_with plan ledger)).fold (length plan.txs) x)
    → rows_shown ledger.version ledger.slots (in_pairs xs) ≡ state_after plan.version plan.txs ledger.rows
unfolding scene_of
last_rows plan ledger is runs xs long values =
    (λ j. rows_shown (runs.same_version j) (runs.same_slots j) (in_pairs xs))
    ∙ (words_show plan ledger (length plan.txs) xs is runs long values
    ∙ ap (λ (txs : List (Option Transaction)). state_after plan.version txs ledger.rows) (take_all (length plan.txs) plan.txs (omega arith)))

pub within : (plan : PlanValue) (ledger : Ledger) → IsPlan plan → CanRunOn plan ledger → (xs : List ℕ) → length xs ≡ 2 * length plan.ids
    → ((x : ℕ) → x < length xs → get_or xs x 0 ≡ (scene_of (setting_with plan ledger)).fold (length plan.txs) x)
    → total_of (rows_shown ledger.version ledger.slots (in_pairs xs)) < 2 ^ 63
within plan ledger is runs xs long values = subst (λ (rows : List Row). total_of rows < 2 ^ 63) (sym (last_rows plan ledger is runs xs long values))
    (ledger_kept_by_fold plan.version plan.txs ledger.rows runs.is_ledger).within

-- ---- the receipts

same_status : (s t : Status) → number_of s ≡ number_of t → s ≡ t
same_status s t e = let z : Some s ≡ Some t = sym (status_again s) ∙ (ap status_with e ∙ status_again t) in cc

same_receipt : (a b : Receipt) → number_of a.status ≡ number_of b.status → a.moved ≡ b.moved → a ≡ b
same_receipt a b s m = λ i. record { status = same_status a.status b.status s i; moved = m i }

rule_receipt : (v : Version) (o : Option Transaction) (rows : List Row) → (outcome_of v o rows).receipt ≡ record { status = status_on v o (account_at rows); moved = moved_on v o (account_at rows) }
rule_receipt v None rows = refl
rule_receipt v (Some t) rows = refl

-- a place does on the accounts that the words before it say what it does on the rows before it
said_alike : (plan : PlanValue) (ledger : Ledger) → IsPlan plan → CanRunOn plan ledger → (p : ℕ)
    → DoesSame plan.version (tx_at plan p) (account_at (rows_before plan.version plan.txs p ledger.rows)) (accounts_by plan.version plan.ids (word_by plan.ids (account_at (rows_before plan.version plan.txs p ledger.rows))))
said_alike plan ledger is runs p = let rows = rows_before plan.version plan.txs p ledger.rows in
    does_same plan.version (tx_at plan p) (account_at rows) (accounts_by plan.version plan.ids (word_by plan.ids (account_at rows)))
    (λ t here. said_agrees plan.version plan.ids plan.txs p ledger.rows runs.is_ledger runs.has_room (all_there plan ledger runs) is.covered t here)

scene_receipt : (plan : PlanValue) (ledger : Ledger) → IsPlan plan → CanRunOn plan ledger → (p : ℕ)
    → (status_at (scene_of (setting_with plan ledger)) p ≡ number_of (outcome_at plan.version plan.txs p ledger.rows).receipt.status)
    × (moved_at (scene_of (setting_with plan ledger)) p ≡ (outcome_at plan.version plan.txs p ledger.rows).receipt.moved)
unfolding scene_of
scene_receipt plan ledger is runs p = let same = said_alike plan ledger is runs p in
    let r = rule_receipt plan.version (tx_at plan p) (rows_before plan.version plan.txs p ledger.rows) in (
      ap number_of (sym same.status ∙ ap (λ (z : Receipt). z.status) (sym r)),
      sym same.moved ∙ ap (λ (z : Receipt). z.moved) (sym r),
    )

-- the receipt of a place is what the scene has there
pub receipts_shown : (plan : PlanValue) (ledger : Ledger) → IsPlan plan → CanRunOn plan ledger → (p : ℕ) (r : Receipt) → slice_get (receipts_of plan.version plan.txs ledger.rows) p ≡ Some r
    → (status_at (executions.scene_of plan ledger) p ≡ number_of r.status) × (moved_at (executions.scene_of plan ledger) p ≡ r.moved)
unfolding scene_of
receipts_shown plan ledger is runs p r here =
    let rs : List Receipt = receipts_of plan.version plan.txs ledger.rows in
    let made : Receipt = (outcome_at plan.version plan.txs p ledger.rows).receipt in
    let l : p < length plan.txs = subst (λ (n : ℕ). p < n) (length-receipts plan.version plan.txs ledger.rows) (slice_get_within rs p r here) in
    let both : Some made ≡ Some r = sym (receipt_of_place plan.version plan.txs p ledger.rows l) ∙ here in
    let same : made ≡ r = cc in
    let s = scene_receipt plan ledger is runs p in
    (s.0 ∙ ap (λ (z : Receipt). number_of z.status) same, s.1 ∙ ap (λ (z : Receipt). z.moved) same)

-- receipts that are the fold's at each place are those of the transactions
pub last_receipts : (plan : PlanValue) (ledger : Ledger) → IsPlan plan → CanRunOn plan ledger → (rs : List Receipt) → length rs ≡ length plan.txs
    → ((p : ℕ) → p < length plan.txs → (number_of (receipt_at rs p).status ≡ status_at (scene_of (setting_with plan ledger)) p) × ((receipt_at rs p).moved ≡ moved_at (scene_of (setting_with plan ledger)) p))
    → rs ≡ receipts_of plan.version plan.txs ledger.rows
last_receipts plan ledger is runs rs long each = ext_get_or no_receipt rs (receipts_of plan.version plan.txs ledger.rows)
    (long ∙ sym (length-receipts plan.version plan.txs ledger.rows)) (λ p l. at p (omega arith))
  where
    at : (p : ℕ) → p < length plan.txs → receipt_at rs p ≡ receipt_at (receipts_of plan.version plan.txs ledger.rows) p
    at p l = let made = (outcome_at plan.version plan.txs p ledger.rows).receipt in let s = scene_receipt plan ledger is runs p in let e = each p l in
        same_receipt (receipt_at rs p) made (e.0 ∙ s.0) (e.1 ∙ s.1)
        ∙ sym (get_or_from_slice_get (receipts_of plan.version plan.txs ledger.rows) p made no_receipt (receipt_of_place plan.version plan.txs p ledger.rows l))

-- ---- both

pub is_fold : (plan : PlanValue) (ledger : Ledger) → IsPlan plan → CanRunOn plan ledger → (w : WordsData) → IsClosed plan ledger w → AllFinished w → (xs : List ℕ) → length xs ≡ 2 * length plan.ids
    → ((x : ℕ) → x < length xs → get_or xs x 0 ≡ (scene_of (setting_with plan ledger)).fold (length plan.txs) x)
    → (old new : List Receipt) → AreAdded w old new (length plan.txs) → (after : Ledger) → after ≡ ledger_of ledger.version ledger.slots (rows_shown ledger.version ledger.slots (in_pairs xs))
    → IsFoldOnto plan ledger old new after
is_fold plan ledger is runs w closed all xs long values old new added after state = record {
  state = state ∙ ap (ledger_of ledger.version ledger.slots) (last_rows plan ledger is runs xs long values ∙ ap (λ (v : Version). state_after v plan.txs ledger.rows) (sym runs.same_version));
  receipts = added.new_is ∙ ap (λ (rs : List Receipt). old ++ rs) (receipts_are added.added added.are ∙ ap (λ (v : Version). receipts_of v plan.txs ledger.rows) (sym runs.same_version));
}
  where
    receipts_are : (rs : List Receipt) → AreReceipts w rs (length plan.txs) → rs ≡ receipts_of plan.version plan.txs ledger.rows
    receipts_are rs (count, each) = last_receipts plan ledger is runs rs count (λ p l. let places = closed.places in let d = done_at plan ledger w closed all p (omega arith) in let e = each p l in
        let a = d.0 in let b = e.0 in (omega arith, e.1 ∙ d.1))

-- after those of no list they are the outcome
pub fold_of : (plan : PlanValue) (ledger : Ledger) (old : List Receipt) → old ≡ [] → (o : Outcome) → IsFoldOnto plan ledger old o.receipts.items o.state → IsFoldOf plan ledger o
fold_of plan ledger old none o fold = record {
  state = fold.state;
  receipts = fold.receipts ∙ ap (λ (rs : List Receipt). rs ++ receipts_of ledger.version plan.txs ledger.rows) none;
}
