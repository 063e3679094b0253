-- What a whole run leaves are the receipts and the accounts of the transactions one at a time.
use Rattle.std.proofs.Common.{◌≡◌, ℕ, ◌<◌, List, length, get_or, Option, None, Some, refl, sym, ap, ◌∙◌, subst, arith, take_all}
use Rattle.std.proofs.lemmas.List.{ext_get_or}
use Rattle.std.proofs.lemmas.Option.{slice_get-get_or, slice_get_past, slice_get_within}
use Rattle.std.specs.List.{slice_get}
use Rattle.std.specs.Option.{option_and_then}
use Rattle.bk_base.specs.declared.genesis.Row.{Row}
use Rattle.bk_base.specs.declared.version.Version.{Version}
use Rattle.bk_tx.specs.Transaction.{Transaction}
use Rattle.bk_rules.specs.declared.account.Account.{Account}
use Rattle.bk_rules.specs.declared.receipt.Receipt.{Receipt}
use Rattle.bk_rules.specs.declared.receipt.Status.TheVariants as status
use Rattle.bk_rules.specs.Fold.{state_after, receipts_of, rows_before, outcome_at}
use Rattle.bk_rules.specs.Ledger.{Ledger, shown_by, rows_shown}
use Rattle.bk_rules.specs.Numbers.{number_of}
use Rattle.bk_rules.specs.Rows.{account_at}
use Rattle.bk_rules.specs.private.Slots.{shown_at}
use Rattle.bk_rules.proofs.Finding.{Rises, index_none}
use Rattle.bk_rules.proofs.Folding.{length-receipts, receipt_of_place}
use Rattle.bk_rules.proofs.Slots.{account_at-shown}
use Rattle.bk_conflicts.specs.Plan.{PlanValue, IsPlan}
use Rattle.bk_conflicts.specs.Scene.{status_at, moved_at}
use Rattle.bk_conflicts.specs.SceneOf.{CanRunOn, scene_of, tx_at, account_from, accounts_by}
use Rattle.bk_conflicts.specs.Words.{slot_of}
use Rattle.bk_conflicts.proofs.Opening.{numbers_by, numbers_long, all_there}
use Rattle.bk_conflicts.proofs.Ran.{said_there}
use Rattle.bk_conflicts.proofs.Shown.{numbers_show}
use Rattle.bk_steps.specs.Course.{Course, done}
use Rattle.bk_steps.specs.Moves.{IsWholeRun}
use Rattle.bk_steps.specs.Kept.{IsFold}
use Rattle.bk_steps.specs.Left.{AreLeftIn, RunLeaves, done_with}
use Rattle.bk_steps.specs.declared.event.Event.{Event}
use Rattle.bk_steps.proofs.Outcomes.{one_number, receipt_on, same_on}
use Rattle.bk_steps.proofs.Reached.{sound_of}
use Rattle.bk_steps.proofs.Running.{whole_run_fold}

-- ---- the accounts

shown_none : (v : Version) (ids : List ℕ) (numbers : List Account) → Rises ids → length numbers ≡ length ids → (id : ℕ)
    → slot_of ids id ≡ None → account_at (rows_shown v ids numbers) id ≡ None
shown_none v ids numbers up same id e = account_at-shown v ids numbers up same id
    ∙ (ap (shown_at v numbers) (sym (index_none ids id (sym e)))
    ∙ ap (option_and_then (shown_by v)) (slice_get_past numbers (length ids) (omega arith)))

-- the words of the fold before a place say the accounts before it
accounts_before : (plan : PlanValue) (ledger : Ledger) (p : ℕ) → IsPlan plan → CanRunOn plan ledger → (id : ℕ)
    → account_at (rows_before plan.version plan.txs p ledger.rows) id ≡ accounts_by plan.version plan.ids ((scene_of plan ledger).fold p) id
accounts_before plan ledger p is runs id = at (slot_of plan.ids id) refl
  where
    rows : List Row
    rows = rows_before plan.version plan.txs p ledger.rows

    at : (o : Option ℕ) → slot_of plan.ids id ≡ o → account_at rows id ≡ accounts_by plan.version plan.ids ((scene_of plan ledger).fold p) id
    at None e = ap (λ (rs : List Row). account_at rs id) (sym (numbers_show plan ledger p is runs))
        ∙ (shown_none plan.version plan.ids (numbers_by plan.ids (account_at rows)) is.ids_ascend (numbers_long plan.ids (account_at rows)) id e
        ∙ sym (ap (account_from plan.version ((scene_of plan ledger).fold p)) e))
    at (Some a) e = sym (said_there plan.version plan.ids plan.txs p ledger.rows runs.is_ledger runs.has_room (all_there plan ledger runs) id a e)

-- ---- the receipts

shown_receipt : (plan : PlanValue) (ledger : Ledger) → IsPlan plan → CanRunOn plan ledger → (p : ℕ) (r : Receipt) → p < length plan.txs
    → slice_get (receipts_of plan.version plan.txs ledger.rows) p ≡ Some r
    → (status_at (scene_of plan ledger) p ≡ number_of r.status) × (moved_at (scene_of plan ledger) p ≡ r.moved)
shown_receipt plan ledger is runs p r low here =
    let rows : List Row = rows_before plan.version plan.txs p ledger.rows in
    let made : Receipt = (outcome_at plan.version plan.txs p ledger.rows).receipt in
    let both : Some made ≡ Some r = sym (receipt_of_place plan.version plan.txs p ledger.rows low) ∙ here in
    let same : made ≡ r = cc in
    let on = same_on plan ledger is runs p in
    let rule = receipt_on plan.version (tx_at plan p) rows in (
      sym (ap number_of on.status) ∙ ap (λ (z : Receipt). number_of z.status) (sym rule ∙ same),
      sym on.moved ∙ ap (λ (z : Receipt). z.moved) (sym rule ∙ same),
    )

same_done : (a b : Receipt) → done (number_of a.status) a.moved ≡ done (number_of b.status) b.moved → a ≡ b
same_done a b e =
    let st : number_of a.status ≡ number_of b.status = cc in
    let mv : a.moved ≡ b.moved = cc in
    λ i. record { status = one_number a.status b.status st i; moved = mv i }

-- a course has one list of receipts
one_list : (d : Course) (xs ys : List Receipt) → length xs ≡ length ys
    → ((p : ℕ) (r : Receipt) → slice_get xs p ≡ Some r → d.phase p ≡ done_with r)
    → ((p : ℕ) (r : Receipt) → slice_get ys p ≡ Some r → d.phase p ≡ done_with r) → xs ≡ ys
one_list d xs ys long a b = ext_get_or no xs ys long (λ p l. same_done (get_or xs p no) (get_or ys p no)
    (sym (a p (get_or xs p no) (slice_get-get_or xs p no l)) ∙ b p (get_or ys p no) (slice_get-get_or ys p no (omega arith))))
  where
    no : Receipt
    no = record { status = status.Ok; moved = 0 }

-- ---- both

pub fold_leaves : (plan : PlanValue) (ledger : Ledger) → IsPlan plan → CanRunOn plan ledger → (d : Course) → IsFold (scene_of plan ledger) d
    → AreLeftIn plan d (receipts_of plan.version plan.txs ledger.rows) (state_after plan.version plan.txs ledger.rows)
fold_leaves plan ledger is runs d fold = record {
  one_each = long;
  receipts_are = λ p r here.
      let low : p < length plan.txs = subst (λ (n : ℕ). p < n) long (slice_get_within (receipts_of plan.version plan.txs ledger.rows) p r here) in
      let s = shown_receipt plan ledger is runs p r low here in
      fold.receipts p low ∙ (λ i. done (s.0 i) (s.1 i));
  accounts_are = λ id. ap (λ (ts : List (Option Transaction)). account_at (state_after plan.version ts ledger.rows) id)
      (sym (take_all (length plan.txs) plan.txs (omega arith)))
      ∙ (accounts_before plan ledger (length plan.txs) is runs id
      ∙ ap (λ (f : ℕ → ℕ). accounts_by plan.version plan.ids f id) (λ i x. sym (fold.values x) i));
}
  where
    long : length (receipts_of plan.version plan.txs ledger.rows) ≡ length plan.txs
    long = length-receipts plan.version plan.txs ledger.rows

-- a whole run leaves the fold
pub run_leaves : (plan : PlanValue) (ledger : Ledger) → IsPlan plan → CanRunOn plan ledger → (es : List Event) (end : Course)
    → IsWholeRun (scene_of plan ledger) es end
    → RunLeaves plan ledger (receipts_of plan.version plan.txs ledger.rows) (state_after plan.version plan.txs ledger.rows)
run_leaves plan ledger is runs es end whole =
    (es, end, whole, fold_leaves plan ledger is runs end (whole_run_fold (scene_of plan ledger) (sound_of plan ledger is runs) es end whole))

-- and nothing else
pub runs_leave_fold : (plan : PlanValue) (ledger : Ledger) → IsPlan plan → CanRunOn plan ledger → (receipts : List Receipt) (rows : List Row)
    → RunLeaves plan ledger receipts rows
    → (receipts ≡ receipts_of plan.version plan.txs ledger.rows)
    × ((id : ℕ) → account_at rows id ≡ account_at (state_after plan.version plan.txs ledger.rows) id)
runs_leave_fold plan ledger is runs receipts rows (es, end, whole, left) =
    let fold = fold_leaves plan ledger is runs end (whole_run_fold (scene_of plan ledger) (sound_of plan ledger is runs) es end whole) in (
      one_list end receipts (receipts_of plan.version plan.txs ledger.rows) (left.one_each ∙ sym fold.one_each) left.receipts_are fold.receipts_are,
      λ id. left.accounts_are id ∙ sym (fold.accounts_are id),
    )
