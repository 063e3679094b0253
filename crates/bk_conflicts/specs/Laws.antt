-- The laws of conflicts and edges.
use Rattle.std.specs.Prelude.{◌≡◌, ◌≢◌, ◌↔◌, ℕ, ◌*◌, ◌<◌, List, length, slice_index_or, true, Option}
use Rattle.bk_base.specs.declared.version.Version.TheVariants.{Two}
use Rattle.bk_tx.specs.Transaction.{Transaction}
use Rattle.bk_rules.specs.Fold.{rows_before}
use Rattle.bk_rules.specs.Ledger.{Ledger, are_covered, rows_shown, in_pairs}
use Rattle.bk_conflicts.specs.Conflicts.{share, clash, Conflict, Edge, Waits}
use Rattle.bk_conflicts.specs.Plan.{PlanValue, IsPlan}
use Rattle.bk_conflicts.specs.Scene.{IsSound}
use Rattle.bk_conflicts.specs.SceneOf.{in_conflict, scene_of, CanRunOn}

-- who waits directly for another comes later, and is in conflict with it
abbrev pub EdgesConflict : Type 0
EdgesConflict = (slots : List ℕ) (txs : List (Option Transaction)) (p q : ℕ) → Edge (clash slots txs) p q → (p < q) × Conflict slots txs p q

-- of two in conflict the later waits for the earlier
abbrev pub ConflictsWait : Type 0
ConflictsWait = (slots : List ℕ) (txs : List (Option Transaction)) (p q : ℕ) → p < q → Conflict slots txs p q → Waits (clash slots txs) p q

-- two places are in conflict exactly where the scene of a plan has them clash
abbrev pub ConflictsClash : Type 0
ConflictsClash = (slots : List ℕ) (txs : List (Option Transaction)) (p q : ℕ) → p ≢ q → Conflict slots txs p q ↔ (in_conflict slots txs p q ≡ true)

-- where each declared account has a slot, as in version Two, each account that is shared counts
abbrev pub SharedAccountsCount : Type 0
SharedAccountsCount = (slots : List ℕ) (txs : List (Option Transaction)) (id p q : ℕ) → are_covered Two slots txs ≡ true → clash slots txs id p q ≡ share txs id p q

-- the execution of a plan on a ledger is sound
abbrev pub ScenesAreSound : Type 0
ScenesAreSound = (plan : PlanValue) (ledger : Ledger) → IsPlan plan → CanRunOn plan ledger → IsSound (scene_of plan ledger)

-- words that are the fold's before a place show the rows before it
abbrev pub WordsShowRows : Type 0
WordsShowRows = (plan : PlanValue) (ledger : Ledger) (place : ℕ) (words : List ℕ) → IsPlan plan → CanRunOn plan ledger → length words ≡ 2 * length plan.ids
    → ((x : ℕ) → x < length words → slice_index_or words x 0 ≡ (scene_of plan ledger).fold place x) → rows_shown plan.version plan.ids (in_pairs words) ≡ rows_before plan.version plan.txs place ledger.rows
