-- The bundles of a plan.
use Rattle.std.proofs.Common.{◌≡◌, ◌≢◌, ◌⊎◌, ⊎_elim, ℕ, ◌+◌, ◌*◌, ◌^◌, ◌<◌, ◌≤◌, ◌==◌, ◌&&◌, ◌||◌, List, [], ◌∷◌, length, get_or, take, Bool, true, false, Option, None, Some, is_some, refl, sym, ap, ◌∙◌, subst, arith}
use Rattle.std.specs.List.{list_any}
use Rattle.std.proofs.lemmas.Bool.{and_parts, or_cases, both_ways}
use Rattle.bk_base.specs.declared.genesis.Row.{Row}
use Rattle.bk_base.specs.declared.version.Version.{Version}
use Rattle.bk_tx.specs.Transaction.{Transaction}
use Rattle.bk_tx.specs.Access.{declares}
use Rattle.bk_tx.specs.Access as access
use Rattle.bk_rules.specs.declared.receipt.Status.{Status}
use Rattle.bk_rules.specs.declared.receipt.Status.TheVariants as status
use Rattle.bk_rules.specs.Rule.{Accounts, status_of, moved_by}
use Rattle.bk_rules.specs.Rows.{IsLedger, account_at}
use Rattle.bk_rules.specs.Fold.{rows_before, state_after, receipts_of}
use Rattle.bk_rules.specs.Ledger.{Ledger, has_slot}
use Rattle.bk_rules.specs.Numbers.{number_of}
use Rattle.bk_rules.proofs.Finding.{Rises}
use Rattle.bk_rules.proofs.Folding.{ledger_kept_by_fold}
use Rattle.bk_rules.proofs.Kept.{funds_where_ok}
use Rattle.bk_rules.proofs.Places.{position_is}
use Rattle.bk_rules.proofs.Stores.{balance_below}
use Rattle.bk_conflicts.specs.Conflicts.{declared_at, clash}
use Rattle.bk_conflicts.specs.Plan.{PlanValue, IsPlan}
use Rattle.bk_conflicts.specs.Scene.{Scene, AreEdges}
use Rattle.bk_conflicts.specs.SceneOf.{CanRunOn, scene_of, status_on, moved_on, tx_at}
use Rattle.bk_conflicts.specs.Words.{slot_of}
use Rattle.bk_conflicts.specs.private.Accesses.{Places, places_of, uses, writes, clash_at}
use Rattle.bk_conflicts.proofs.Accessed.{StandsAt, slot_there}
use Rattle.bk_conflicts.proofs.Bridge.{uses_same, writes_same, slot_here}
use Rattle.bk_steps.specs.Course.{Course}
use Rattle.bk_steps.specs.Left.{RunLeaves}
use Rattle.bk_steps.specs.Moves.{IsWholeRun}
use Rattle.bk_steps.specs.declared.event.Event.{Event}
use Rattle.bk_steps.proofs.InOrder.{whole_runs_exist}
use Rattle.bk_steps.proofs.Leaving.{run_leaves}
use Rattle.bk_steps.proofs.Outcomes.{same_on}
use Rattle.bk_steps.proofs.Reached.{sound_of}
use Rattle.bk_bundles.specs.Bundled.{bundled, top, ReceiptsFit, LastWords}
use Rattle.bk_bundles.specs.Planned.{BundlesArePlanned, IsRunOf}
use Rattle.bk_bundles.proofs.Runs.{run_words, runs_are_runs}
use Rattle.bk_bundles.proofs.Unions.{bundle_edges}

-- ---- receipts

-- what a transaction moves its sender had, and only a status of 0 moves anything
fits : (v : Version) (o : Option Transaction) (rows : List Row) → IsLedger rows
    → (moved_on v o (account_at rows) < top) × (number_of (status_on v o (account_at rows)) ≢ 0 → moved_on v o (account_at rows) ≡ 0)
fits v None rows l = (omega arith, λ _. refl)
fits v (Some t) rows l = at (status_of v (account_at rows) t) refl
  where
    at : (s : Status) → s ≡ status_of v (account_at rows) t
        → (moved_by s (account_at rows) t < top) × (number_of s ≢ 0 → moved_by s (account_at rows) t ≡ 0)
    at status.Ok e =
        let a = funds_where_ok v t (account_at rows) e in
        let b = balance_below rows t.from in
        let c = l.within in (omega arith, λ n. absurd (n refl))
    at status.Malformed e = (omega arith, λ _. refl)
    at status.Undeclared e = (omega arith, λ _. refl)
    at status.Unknown e = (omega arith, λ _. refl)
    at status.Stale e = (omega arith, λ _. refl)
    at status.Guard e = (omega arith, λ _. refl)
    at status.Funds e = (omega arith, λ _. refl)

pub receipts_fit : (plan : PlanValue) (ledger : Ledger) → IsPlan plan → CanRunOn plan ledger → ReceiptsFit (scene_of plan ledger)
receipts_fit plan ledger is runs p =
    let on = same_on plan ledger is runs p in
    subst (λ (y : ℕ × Status). (y.0 < top) × (number_of y.1 ≢ 0 → y.0 ≡ 0)) (λ i. (on.moved i, on.status i))
    (fits plan.version (tx_at plan p) (rows_before plan.version plan.txs p ledger.rows)
    (ledger_kept_by_fold plan.version (take p plan.txs) ledger.rows runs.is_ledger))

-- ---- conflicts by slot

slot_found : (slots : List ℕ) (id : ℕ) → has_slot slots id ≡ true → (s : ℕ) × StandsAt slots id s
slot_found slots id h = at (slot_of slots id) refl (position_is (λ (i : ℕ). i == id) slots ∙ h)
  where
    at : (o : Option ℕ) → slot_of slots id ≡ o → is_some (slot_of slots id) ≡ true → (s : ℕ) × StandsAt slots id s
    at None e some = absurd (both_ways _ (ap is_some e) some)
    at (Some s) e some = (s, slot_there slots id s e)

clash_same : (slots : List ℕ) (txs : List (Option Transaction)) → Rises slots → (s : ℕ) → s < length slots → (p q : ℕ) → clash_at (places_of slots txs) s p q ≡ clash slots txs (get_or slots s 0) p q
unfolding clash clash_at uses writes places_of
clash_same slots txs up s l p q =
    (λ i. (uses_same slots up s l (declared_at txs p) i && uses_same slots up s l (declared_at txs q) i) && (writes_same slots up s l (declared_at txs p) i || writes_same slots up s l (declared_at txs q) i))
    ∙ ap (λ (b : Bool). b && ((declares (declared_at txs p) (get_or slots s 0) && declares (declared_at txs q) (get_or slots s 0)) && (access.writes (declared_at txs p) (get_or slots s 0) || access.writes (declared_at txs q) (get_or slots s 0)))) (sym (slot_here slots s l))

clash_has_slot : (slots : List ℕ) (txs : List (Option Transaction)) (id p q : ℕ) → clash slots txs id p q ≡ true → has_slot slots id ≡ true
unfolding clash
clash_has_slot slots txs id p q e = (and_parts (has_slot slots id) _ e).0

some_id : (f : ℕ → Bool) (slots : List ℕ) → list_any f slots ≡ true → (id : ℕ) × (f id ≡ true)
some_id f [] e = absurd (both_ways _ refl e)
some_id f (i ∷ slots) e = ⊎_elim (λ h. (i, h)) (λ h. some_id f slots h) (or_cases (f i) (list_any f slots) e)

shares : (plan : PlanValue) (ledger : Ledger) → IsPlan plan → (p q : ℕ) → (scene_of plan ledger).clash p q ≡ true
    → (a : ℕ) × (clash_at (places_of plan.ids plan.txs) a p q ≡ true)
shares plan ledger is p q e =
    let id = some_id (λ (id : ℕ). clash plan.ids plan.txs id p q) plan.ids e in
    let s = slot_found plan.ids id.0 (clash_has_slot plan.ids plan.txs id.0 p q id.1) in (
      s.0,
      clash_same plan.ids plan.txs is.ids_ascend s.0 s.1.inside p q
          ∙ (ap (λ (k : ℕ). clash plan.ids plan.txs k p q) s.1.id_is ∙ id.1),
    )

-- ---- all of it

pub edges_of_bundles : (plan : PlanValue) (ledger : Ledger) (w : ℕ) (u : Places) (before : ℕ → ℕ) (next : ℕ → List ℕ)
    → IsPlan plan → 0 < w → BundlesArePlanned (length plan.txs) w (places_of plan.ids plan.txs) u before next
    → AreEdges (bundled (scene_of plan ledger) w before next)
edges_of_bundles plan ledger w u before next is some h =
    bundle_edges (scene_of plan ledger) w (places_of plan.ids plan.txs) u before next some is.few_places (shares plan ledger is) h

pub bundles_leave_fold : (plan : PlanValue) (ledger : Ledger) (w : ℕ) (u : Places) (before : ℕ → ℕ) (next : ℕ → List ℕ)
    → IsPlan plan → CanRunOn plan ledger → 0 < w → 2 * length plan.ids + length plan.txs < 2 ^ 32
    → BundlesArePlanned (length plan.txs) w (places_of plan.ids plan.txs) u before next
    → (es : List Event) (end : Course) → IsWholeRun (bundled (scene_of plan ledger) w before next) es end
    → LastWords (scene_of plan ledger) end.value × IsRunOf (scene_of plan ledger) end.value
    × RunLeaves plan ledger (receipts_of plan.version plan.txs ledger.rows) (state_after plan.version plan.txs ledger.rows)
bundles_leave_fold plan ledger w u before next is runs some room h es end run =
    let s : Scene = scene_of plan ledger in
    let sound = sound_of plan ledger is runs in
    let fit = receipts_fit plan ledger is runs in
    let edges = edges_of_bundles plan ledger w u before next is some h in
    let there = whole_runs_exist s sound in (
      run_words s w before next sound some fit edges room es end run,
      runs_are_runs s w before next sound some fit edges room es end run,
      run_leaves plan ledger is runs there.0 there.1 there.2,
    )
