-- What a planner of bundles gives, and what whole runs of bundles leave.
use Rattle.std.specs.Prelude.{◌≡◌, ℕ, ◌+◌, ◌*◌, ◌^◌, ◌<◌, ◌≤◌, List, [], length, true}
use Rattle.bk_rules.specs.Fold.{state_after, receipts_of}
use Rattle.bk_rules.specs.Ledger.{Ledger}
use Rattle.bk_conflicts.specs.Scene.{Scene, AreEdges, IsSound}
use Rattle.bk_conflicts.specs.SceneOf.{CanRunOn, scene_of}
use Rattle.bk_conflicts.specs.Plan.{PlanValue, IsPlan}
use Rattle.bk_conflicts.specs.private.Accesses.{Places, IsAscending, uses, writes, places_of}
use Rattle.bk_conflicts.specs.private.Rows.{turned}
use Rattle.bk_conflicts.specs.private.Trail.{direct}
use Rattle.bk_steps.specs.Course.{Course, done}
use Rattle.bk_steps.specs.Left.{RunLeaves}
use Rattle.bk_steps.specs.Moves.{IsWholeRun}
use Rattle.bk_steps.specs.declared.event.Event.{Event}
use Rattle.bk_bundles.specs.Bundled.{any_of, bundles, bundled, top, status_from, moved_from, ReceiptsFit, LastWords}

-- each list has, in ascending order, what the w places of a bundle access; a slot is writable where one of them may write it
pub record AreUnions (t : Places) (w : ℕ) (u : Places) : Type 0 where
  pub ascend : (b : ℕ) → IsAscending (u b)
  pub used : (a b : ℕ) → any_of (λ p. uses t a p) (w * b) w ≡ true → uses u a b ≡ true
  pub written : (a b : ℕ) → any_of (λ p. writes t a p) (w * b) w ≡ true → writes u a b ≡ true

-- the unions, how many bundles each waits for directly, and which wait for it
pub record BundlesArePlanned (places w : ℕ) (t u : Places) (before : ℕ → ℕ) (next : ℕ → List ℕ) : Type 0 where
  pub unions : AreUnions t w u
  pub beyond : (b : ℕ) → bundles places w ≤ b → u b ≡ []
  pub before_is : (b : ℕ) → b < bundles places w → before b ≡ length (direct u b)
  pub next_is : (b : ℕ) → b < bundles places w → next b ≡ turned (direct u) (bundles places w) b

-- the run of the places leaves what the words say: the accounts' words, and the receipt of each place
pub record IsRunOf (s : Scene) (f : ℕ → ℕ) : Type 0 where
  pub events : List Event
  pub end : Course
  pub whole : IsWholeRun s events end
  pub values : (x : ℕ) → x < s.words → end.value x ≡ f x
  pub receipts : (p : ℕ) → p < s.places → end.phase p ≡ done (status_from top (f (s.words + p))) (moved_from top (f (s.words + p)))

-- whatever bundles leave a run of the places leaves
abbrev pub BundleRunsAreRuns : Type 0
BundleRunsAreRuns = (s : Scene) (w : ℕ) (before : ℕ → ℕ) (next : ℕ → List ℕ) → IsSound s → 0 < w → ReceiptsFit s
    → AreEdges (bundled s w before next) → s.words + s.places < 2 ^ 32
    → (es : List Event) (end : Course) → IsWholeRun (bundled s w before next) es end → IsRunOf s end.value

-- the receipts of a plan's scene can be told from their numbers
abbrev pub PlansFit : Type 0
PlansFit = (plan : PlanValue) (ledger : Ledger) → IsPlan plan → CanRunOn plan ledger → ReceiptsFit (scene_of plan ledger)

-- the edges that a planner of bundles gives are those of the bundles
abbrev pub PlannedEdgesAreEdges : Type 0
PlannedEdgesAreEdges = (plan : PlanValue) (ledger : Ledger) (w : ℕ) (u : Places) (before : ℕ → ℕ) (next : ℕ → List ℕ)
    → IsPlan plan → 0 < w → BundlesArePlanned (length plan.txs) w (places_of plan.ids plan.txs) u before next
    → AreEdges (bundled (scene_of plan ledger) w before next)

-- all of it for a plan: a whole run of its bundles leaves the fold of its transactions
abbrev pub BundlesOfPlansLeaveFold : Type 0
BundlesOfPlansLeaveFold = (plan : PlanValue) (ledger : Ledger) (w : ℕ) (u : Places) (before : ℕ → ℕ) (next : ℕ → List ℕ)
    → IsPlan plan → CanRunOn plan ledger → 0 < w → 2 * length plan.ids + length plan.txs < 2 ^ 32
    → BundlesArePlanned (length plan.txs) w (places_of plan.ids plan.txs) u before next
    → (es : List Event) (end : Course) → IsWholeRun (bundled (scene_of plan ledger) w before next) es end
    → LastWords (scene_of plan ledger) end.value × IsRunOf (scene_of plan ledger) end.value
    × RunLeaves plan ledger (receipts_of plan.version plan.txs ledger.rows) (state_after plan.version plan.txs ledger.rows)
