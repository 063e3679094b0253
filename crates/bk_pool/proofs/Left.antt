-- What the words of a closed bank say of the run that left them.
use Rattle.std.proofs.Common.{◌≡◌, ℕ, ◌+◌, ◌*◌, ◌^◌, ◌≤◌, List, [], ◌++◌, get_or, sym, ap, ◌∙◌, subst, arith}
use Rattle.bk_base.specs.declared.genesis.Row.{Row}
use Rattle.bk_base.specs.declared.version.Version.{Version}
use Rattle.bk_rules.specs.declared.receipt.Receipt.{Receipt}
use Rattle.bk_rules.specs.Fold.{state_after, receipts_of}
use Rattle.bk_rules.specs.Ledger.{Ledger}
use Rattle.bk_conflicts.specs.Plan.{PlanValue, IsPlan}
use Rattle.bk_conflicts.specs.SceneOf.{CanRunOn}
use Rattle.bk_conflicts.specs.SceneOf as executions
use Rattle.bk_steps.specs.Course.{Course}
use Rattle.bk_steps.specs.Moves.{IsWholeRun}
use Rattle.bk_steps.specs.Left.{RunLeaves}
use Rattle.bk_steps.specs.declared.event.Event.{Event}
use Rattle.bk_steps.proofs.Leaving.{run_leaves}
use Rattle.bk_bank.specs.Setting.{scene_of, setting_with}
use Rattle.bk_bank.specs.Words.{WordsData, AllFinished}
use Rattle.bk_bank.proofs.Settings.{scene_places, scene_words}
use Rattle.bk_pool.specs.Outcomes.{IsClosed, IsFoldOnto, RunLeavesOnto}

-- where all places are done, the events that led to the words are a whole run
pub whole_run : (plan : PlanValue) (ledger : Ledger) (w : WordsData) → IsClosed plan ledger w → AllFinished w
    → (es : List Event) × (end : Course) × IsWholeRun (executions.scene_of plan ledger) es end
unfolding scene_of
whole_run plan ledger w closed all =
    let g = setting_with plan ledger in
    let places = closed.places in
    let words = closed.words in
    let n = scene_places g in
    let m = scene_words g in
    let ran = closed.ends.ran in (
      ran.1.0,
      ran.0,
      (
        ran.1.1,
        λ p l. ran.2.is_done p l (subst (λ (i : ℕ). 2 ^ 63 ≤ get_or w.items i 0)
            (let at : w.words + 2 * p ≡ (scene_of g).words + 2 * p = omega arith in at) (all p (omega arith))),
      ),
    )

-- the outcome is what that run left
pub ran_onto : (plan : PlanValue) (ledger : Ledger) → IsPlan plan → CanRunOn plan ledger → (w : WordsData) → IsClosed plan ledger w → AllFinished w
    → (old new : List Receipt) (after : Ledger) → IsFoldOnto plan ledger old new after → RunLeavesOnto plan ledger old new after
ran_onto plan ledger is runs w closed all old new after fold =
    let run = whole_run plan ledger w closed all in
    let back = sym runs.same_version in (
      receipts_of ledger.version plan.txs ledger.rows,
      fold.receipts,
      subst (λ (y : List Receipt × List Row). RunLeaves plan ledger y.0 y.1)
          (λ j. (
            receipts_of (back j) plan.txs ledger.rows,
            (ap (λ (v : Version). state_after v plan.txs ledger.rows) back ∙ sym (ap (λ (l : Ledger). l.rows) fold.state)) j,
          ))
          (run_leaves plan ledger is runs run.0 run.1 run.2),
    )

-- after those of no list
pub ran_alone : (plan : PlanValue) (ledger : Ledger) (old : List Receipt) → old ≡ [] → (new : List Receipt) (after : Ledger)
    → RunLeavesOnto plan ledger old new after → RunLeaves plan ledger new after.rows
ran_alone plan ledger old none new after (added, is, left) =
    subst (λ (rs : List Receipt). RunLeaves plan ledger rs after.rows) (sym (is ∙ ap (λ (rs : List Receipt). rs ++ added) none)) left
