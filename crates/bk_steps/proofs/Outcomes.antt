-- What a machine gives where every place is done.
use Rattle.std.proofs.Common.{◌≡◌, ℕ, zero, suc, ◌^◌, ◌<◌, List, [], ◌∷◌, length, map, get_or, take, true, false, Option, None, Some, refl, sym, ap, ◌∙◌, subst, arith, take_all}
use Rattle.std.proofs.lemmas.List.{ext_get_or, length-map, get_or-take, length-take-le}
use Rattle.std.proofs.lemmas.Option.{slice_get-get_or}
use Rattle.std.specs.List.{slice_get}
use Rattle.bk_base.specs.declared.genesis.Row.{Row}
use Rattle.bk_base.specs.declared.version.Version.{Version}
use Rattle.bk_base.specs.Genesis.{total_of}
use Rattle.bk_tx.specs.Transaction.{Transaction}
use Rattle.bk_rules.specs.declared.receipt.Receipt.{Receipt}
use Rattle.bk_rules.specs.declared.receipt.Status.{Status}
use Rattle.bk_rules.specs.declared.receipt.Status.TheVariants as status
use Rattle.bk_rules.specs.Fold.{state_after, receipts_of, rows_before, outcome_at}
use Rattle.bk_rules.specs.Ledger.{Ledger, rows_shown, in_pairs}
use Rattle.bk_rules.specs.Numbers.{number_of, status_with}
use Rattle.bk_rules.specs.Rows.{account_at, outcome_of}
use Rattle.bk_rules.proofs.Folding.{ledger_kept_by_fold, length-receipts, receipt_of_place}
use Rattle.bk_conflicts.specs.Plan.{PlanValue, IsPlan}
use Rattle.bk_conflicts.specs.Scene.{status_at, moved_at}
use Rattle.bk_conflicts.specs.SceneOf.{CanRunOn, scene_of, word_by, accounts_by, tx_at, status_on, moved_on}
use Rattle.bk_conflicts.proofs.Opening.{all_there}
use Rattle.bk_conflicts.proofs.Ran.{said_agrees}
use Rattle.bk_conflicts.proofs.Said.{DoesSame, does_same}
use Rattle.bk_conflicts.proofs.Shown.{words_show}
use Rattle.bk_steps.specs.Course.{Course, done, IsDone}
use Rattle.bk_steps.specs.Moves.{AllAreDone}
use Rattle.bk_steps.specs.Machine.{MachineValue, scene_in, phase_of, stage_at, Shows, IsMachine}
use Rattle.bk_steps.specs.private.Machine.{is_done}
use Rattle.bk_steps.specs.declared.stage.Stage.{Stage}
use Rattle.bk_steps.specs.declared.stage.Stage.TheVariants.{Waiting, Held, Done}
use Rattle.bk_steps.proofs.Reached.{sound}
use Rattle.bk_steps.proofs.Running.{values_at_end, receipt_of_done}

-- ---- receipts and stages

stage_of : (rs : List Receipt) (p : ℕ) (e : Receipt) → p < length rs → get_or (map (λ r. Done r) rs) p Waiting ≡ Done (get_or rs p e)
stage_of [] p e l = absurd (omega arith)
stage_of (r ∷ rs) zero e l = refl
stage_of (r ∷ rs) (suc p) e l = stage_of rs p e (omega arith)

many : (m : MachineValue) (rs : List Receipt) → IsMachine m → map (λ r. Done r) rs ≡ m.stages → length rs ≡ length m.plan.txs
many m rs z e = sym (length-map rs (λ r. Done r)) ∙ (ap length e ∙ z.stages_long)

stage_is : (m : MachineValue) (rs : List Receipt) → IsMachine m → map (λ r. Done r) rs ≡ m.stages → (p : ℕ) (e : Receipt) → p < length m.plan.txs
    → stage_at m p ≡ Done (get_or rs p e)
stage_is m rs z is p e l = ap (λ (g : List Stage). get_or g p Waiting) (sym is) ∙ stage_of rs p e (let n = many m rs z is in omega arith)

not_done : (g : Stage) → ((x : Receipt) → g ≡ Done x → ⊥) → is_done g ≡ false
not_done Waiting h = refl
not_done (Held w) h = refl
not_done (Done r) h = absurd (h r refl)

-- the first that is not done, after some that are
pub first_left : (rs : List Receipt) (stages : List Stage) (p : ℕ) → map (λ r. Done r) rs ≡ take p stages → p < length stages
    → ((x : Receipt) → get_or stages p Waiting ≡ Done x → ⊥)
    → (p < length stages) × (is_done (get_or stages p Waiting) ≡ false) × ((q : ℕ) → q < p → is_done (get_or stages q Waiting) ≡ true)
first_left rs stages p is low other = (
  low,
  not_done (get_or stages p Waiting) other,
  λ q l. ap is_done (sym (get_or-take p stages q Waiting l) ∙ (ap (λ (g : List Stage). get_or g q Waiting) (sym is)
      ∙ stage_of rs q (record { status = status.Ok; moved = 0 }) (let n = sym (length-map rs (λ r. Done r)) ∙ ap length is in let t = length-take-le p stages (omega arith) in omega arith))),
)

pub all_done : (m : MachineValue) (rs : List Receipt) → IsMachine m → map (λ r. Done r) rs ≡ m.stages → (d : Course) → Shows m d
    → AllAreDone (scene_in m) d
all_done m rs z is d k p l = subst IsDone (sym (k.phases p ∙ ap phase_of (stage_is m rs z is p (record { status = status.Ok; moved = 0 }) l))) tt

-- ---- the receipts are the fold's

status_again : (s : Status) → status_with (number_of s) ≡ Some s
status_again status.Ok = refl
status_again status.Malformed = refl
status_again status.Undeclared = refl
status_again status.Unknown = refl
status_again status.Stale = refl
status_again status.Guard = refl
status_again status.Funds = refl

pub one_number : (a b : Status) → number_of a ≡ number_of b → a ≡ b
one_number a b e = let same : Some a ≡ Some b = sym (status_again a) ∙ (ap status_with e ∙ status_again b) in cc

-- what a place does on the rows before it
pub same_on : (plan : PlanValue) (ledger : Ledger) → IsPlan plan → CanRunOn plan ledger → (p : ℕ)
    → DoesSame plan.version (tx_at plan p) (account_at (rows_before plan.version plan.txs p ledger.rows))
    (accounts_by plan.version plan.ids ((scene_of plan ledger).fold p))
same_on plan ledger is runs p = does_same plan.version (tx_at plan p) (account_at (rows_before plan.version plan.txs p ledger.rows))
    (accounts_by plan.version plan.ids (word_by plan.ids (account_at (rows_before plan.version plan.txs p ledger.rows))))
    (λ t here. said_agrees plan.version plan.ids plan.txs p ledger.rows runs.is_ledger runs.has_room (all_there plan ledger runs) is.covered t here)

pub receipt_on : (v : Version) (o : Option Transaction) (rows : List Row)
    → (outcome_of v o rows).receipt ≡ record { status = status_on v o (account_at rows); moved = moved_on v o (account_at rows) }
receipt_on v None rows = refl
receipt_on v (Some t) rows = refl

receipt_is : (m : MachineValue) (rs : List Receipt) → IsMachine m → map (λ r. Done r) rs ≡ m.stages → (p : ℕ) (e : Receipt) → p < length m.plan.txs
    → get_or rs p e ≡ (outcome_at m.plan.version m.plan.txs p m.opening.rows).receipt
receipt_is m rs z is p e l =
    let t = z.course in
    let at : t.0.phase p ≡ done (number_of (get_or rs p e).status) (get_or rs p e).moved = t.2.phases p ∙ ap phase_of (stage_is m rs z is p e l) in
    let fold = receipt_of_done (scene_in m) t.0 p t.1 (all_done m rs z is t.0 t.2 p l) in
    let same : done (number_of (get_or rs p e).status) (get_or rs p e).moved ≡ done (status_at (scene_in m) p) (moved_at (scene_in m) p) = sym at ∙ fold in
    let st : number_of (get_or rs p e).status ≡ status_at (scene_in m) p = cc in
    let mv : (get_or rs p e).moved ≡ moved_at (scene_in m) p = cc in
    let on = same_on m.plan m.opening z.is_plan z.can_run p in
    let one : (get_or rs p e).status ≡ status_on m.plan.version (tx_at m.plan p) (account_at (rows_before m.plan.version m.plan.txs p m.opening.rows)) =
    one_number (get_or rs p e).status (status_on m.plan.version (tx_at m.plan p) (account_at (rows_before m.plan.version m.plan.txs p m.opening.rows))) (st ∙ sym (ap number_of on.status)) in
    let two : (get_or rs p e).moved ≡ moved_on m.plan.version (tx_at m.plan p) (account_at (rows_before m.plan.version m.plan.txs p m.opening.rows)) = mv ∙ sym on.moved in
    (λ i. record { status = one i; moved = two i }) ∙ sym (receipt_on m.plan.version (tx_at m.plan p) (rows_before m.plan.version m.plan.txs p m.opening.rows))

pub get_some : (xs : List Receipt) (p : ℕ) (e r : Receipt) → p < length xs → slice_get xs p ≡ Some r → get_or xs p e ≡ r
get_some xs p e r l g = let same : Some (get_or xs p e) ≡ Some r = sym (slice_get-get_or xs p e l) ∙ g in cc

pub receipts_are : (m : MachineValue) (rs : List Receipt) → IsMachine m → map (λ r. Done r) rs ≡ m.stages
    → rs ≡ receipts_of m.opening.version m.plan.txs m.opening.rows
receipts_are m rs z is = subst (λ (v : Version). rs ≡ receipts_of v m.plan.txs m.opening.rows) (sym z.can_run.same_version)
    (ext_get_or no rs (receipts_of m.plan.version m.plan.txs m.opening.rows) (n ∙ sym long)
    (λ p l. receipt_is m rs z is p no (omega (arith, l, n))
    ∙ sym (get_some (receipts_of m.plan.version m.plan.txs m.opening.rows) p no (outcome_at m.plan.version m.plan.txs p m.opening.rows).receipt (omega (arith, l, n, long))
    (receipt_of_place m.plan.version m.plan.txs p m.opening.rows (omega (arith, l, n))))))
  where
    no : Receipt
    no = record { status = status.Ok; moved = 0 }

    n : length rs ≡ length m.plan.txs
    n = many m rs z is

    long : length (receipts_of m.plan.version m.plan.txs m.opening.rows) ≡ length m.plan.txs
    long = length-receipts m.plan.version m.plan.txs m.opening.rows

-- ---- and so are the accounts

rows_are : (m : MachineValue) (rs : List Receipt) → IsMachine m → map (λ r. Done r) rs ≡ m.stages
    → rows_shown m.plan.version m.plan.ids (in_pairs m.words) ≡ state_after m.plan.version m.plan.txs m.opening.rows
rows_are m rs z is = let t = z.course in
    words_show m.plan m.opening (length m.plan.txs) m.words z.is_plan z.can_run z.words_long
    (λ x l. sym (t.2.values x) ∙ values_at_end (scene_in m) (sound m z) t.0 x t.1 (all_done m rs z is t.0 t.2))
    ∙ ap (λ (ts : List (Option Transaction)). state_after m.plan.version ts m.opening.rows) (take_all (length m.plan.txs) m.plan.txs (omega arith))

pub state_is : (m : MachineValue) (rs : List Receipt) → IsMachine m → map (λ r. Done r) rs ≡ m.stages
    → rows_shown m.opening.version m.opening.slots (in_pairs m.words) ≡ state_after m.opening.version m.plan.txs m.opening.rows
state_is m rs z is = subst (λ (y : Version × List ℕ). rows_shown y.0 y.1 (in_pairs m.words) ≡ state_after y.0 m.plan.txs m.opening.rows)
    (λ i. (sym z.can_run.same_version i, sym z.can_run.same_slots i)) (rows_are m rs z is)

pub within : (m : MachineValue) (rs : List Receipt) → IsMachine m → map (λ r. Done r) rs ≡ m.stages
    → total_of (rows_shown m.opening.version m.opening.slots (in_pairs m.words)) < 2 ^ 63
within m rs z is = subst (λ (rows : List Row). total_of rows < 2 ^ 63) (sym (state_is m rs z is))
    (ledger_kept_by_fold m.opening.version m.plan.txs m.opening.rows z.can_run.is_ledger).within
