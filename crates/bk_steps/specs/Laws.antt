-- The laws of interleavings.
use Rattle.std.specs.Prelude.{◌≡◌, ◌≢◌, ◌⊎◌, ℕ, ◌<◌, List, [], Bool, true}
use Rattle.bk_base.specs.declared.genesis.Row.{Row}
use Rattle.bk_rules.specs.declared.receipt.Receipt.{Receipt}
use Rattle.bk_rules.specs.Fold.{state_after, receipts_of}
use Rattle.bk_rules.specs.Ledger.{Ledger}
use Rattle.bk_rules.specs.Rows.{account_at}
use Rattle.bk_conflicts.specs.Plan.{PlanValue, IsPlan}
use Rattle.bk_conflicts.specs.Scene.{Scene, IsSound, IsEdge, Chain}
use Rattle.bk_conflicts.specs.SceneOf.{CanRunOn}
use Rattle.bk_steps.specs.Course.{Course, waiting, free, busy, found, opened, IsDone, IsSettled}
use Rattle.bk_steps.specs.Moves.{after_claim, after_read, after_write, after_finish, HasReadAll, HasWrittenAll, EarlierAreDone, Moves, Runs, IsWholeRun}
use Rattle.bk_steps.specs.Kept.{IsKept, IsFold}
use Rattle.bk_steps.specs.Left.{RunLeaves}
use Rattle.bk_steps.specs.Refusals.{Allows, Refuses}
use Rattle.bk_steps.specs.Schedule.{RunsAmong, IsWholeAmong, IsFault}
use Rattle.bk_steps.specs.declared.event.Event.{Event}
use Rattle.bk_steps.specs.declared.outcome.ScheduleFault.{ScheduleFault}
use Rattle.bk_steps.specs.declared.outcome.ScheduleFault.TheVariants.{OutOfMemory}
use Rattle.bk_base.specs.declared.refused.Refused.{Refused}

-- the opening course is kept
abbrev pub OpeningIsKept : Type 0
OpeningIsKept = (s : Scene) → IsSound s → IsKept s (opened s)

-- a claim of a waiting place by a worker that holds nothing, where each earlier place in conflict
-- is done
abbrev pub ClaimKeeps : Type 0
ClaimKeeps = (s : Scene) → IsSound s → (d : Course) (w p : ℕ) → IsKept s d → d.hand w ≡ free
    → d.phase p ≡ waiting → p < s.places → EarlierAreDone s d p
    → IsKept s (after_claim d w p)

-- a read of a word of its place by a worker that has written nothing
abbrev pub ReadKeeps : Type 0
ReadKeeps = (s : Scene) → IsSound s → (d : Course) (w p x : ℕ) (rs : List (ℕ × ℕ)) → IsKept s d
    → d.hand w ≡ busy p rs [] → s.declares p x ≡ true
    → IsKept s (after_read d w p rs x)

-- a write of what the place leaves in the word, by a worker that has read all words of its place
abbrev pub WriteKeeps : Type 0
WriteKeeps = (s : Scene) → IsSound s → (d : Course) (w p x : ℕ) (rs : List (ℕ × ℕ)) (ws : List ℕ)
    → IsKept s d → d.hand w ≡ busy p rs ws → HasReadAll s p rs → s.writes p x ≡ true
    → IsKept s (after_write d w p rs ws x (s.effect p (found rs) x))

-- a finish by a worker that has read all words of its place and written all that it may
abbrev pub FinishKeeps : Type 0
FinishKeeps = (s : Scene) → IsSound s → (d : Course) (w p : ℕ) (rs : List (ℕ × ℕ)) (ws : List ℕ)
    → IsKept s d → d.hand w ≡ busy p rs ws → HasReadAll s p rs → HasWrittenAll s p ws
    → IsKept s (after_finish d w p (s.status p (found rs)) (s.moved p (found rs)))

-- the four as one
abbrev pub EventKeeps : Type 0
EventKeeps = (s : Scene) → IsSound s → (d next : Course) (e : Event) → IsKept s d → Moves s d e next
    → IsKept s next

-- and so does a run of any length
abbrev pub RunsKeep : Type 0
RunsKeep = (s : Scene) → IsSound s → (es : List Event) (d end : Course) → IsKept s d
    → Runs s d es end → IsKept s end

-- the first set has the direct predecessors of all that the second has, and is a part of it
pub record HoldsPredecessors (s : Scene) (inner outer : ℕ → Bool) : Type 0 where
  pub edges : (p q : ℕ) → IsEdge s p q → outer q ≡ true → inner p ≡ true
  pub part : (p : ℕ) → inner p ≡ true → outer p ≡ true

-- then it has what chains lead from
abbrev pub ChainsAreClosed : Type 0
ChainsAreClosed = (s : Scene) (inner outer : ℕ → Bool) → HoldsPredecessors s inner outer → (p q : ℕ)
    → Chain s p q → outer q ≡ true → inner p ≡ true

-- and the earlier places in conflict
abbrev pub ConflictsAreClosed : Type 0
ConflictsAreClosed = (s : Scene) → IsSound s → (inner outer : ℕ → Bool) → HoldsPredecessors s inner outer
    → (p q : ℕ) → p < q → q < s.places → s.clash p q ≡ true → outer q ≡ true → inner p ≡ true

-- edges lead forward, between places in conflict
abbrev pub EdgesAreConflicts : Scene → Type 0
EdgesAreConflicts s = (p q : ℕ) → IsEdge s p q → (p < q) × (s.clash p q ≡ true)

-- where a place waits no more, each place at the other end of a chain to it is done
abbrev pub DoneAreClosed : Type 0
DoneAreClosed = (s : Scene) → IsSound s → EdgesAreConflicts s → (d : Course) → IsKept s d
    → (p q : ℕ) → Chain s p q → IsSettled (d.phase q) → IsDone (d.phase p)

-- every interleaving ends where the one-at-a-time fold ends
abbrev pub WholeRunsAreFold : Type 0
WholeRunsAreFold = (s : Scene) → IsSound s → (es : List Event) (end : Course)
    → IsWholeRun s es end → IsFold s end

-- and there is one, in which worker 0 takes the places in their order
abbrev pub WholeRunsExist : Type 0
WholeRunsExist = (s : Scene) → IsSound s → (es : List Event) × (end : Course) × IsWholeRun s es end

-- what a whole run leaves are the receipts and the accounts of the transactions one at a time
abbrev pub RunsLeaveFold : Type 0
RunsLeaveFold = (plan : PlanValue) (ledger : Ledger) → IsPlan plan → CanRunOn plan ledger
    → (receipts : List Receipt) (rows : List Row) → RunLeaves plan ledger receipts rows
    → (receipts ≡ receipts_of plan.version plan.txs ledger.rows)
    × ((id : ℕ) → account_at rows id ≡ account_at (state_after plan.version plan.txs ledger.rows) id)

-- every word and every receipt is the same at the end of either
pub record EndAlike (s : Scene) (d c : Course) : Type 0 where
  pub values : (x : ℕ) → d.value x ≡ c.value x
  pub receipts : (p : ℕ) → p < s.places → d.phase p ≡ c.phase p

-- so any two interleavings end alike
abbrev pub OrderMakesNoDifference : Type 0
OrderMakesNoDifference = (s : Scene) → IsSound s → (es others : List Event) (end other : Course)
    → IsWholeRun s es end → IsWholeRun s others other → EndAlike s end other

-- each event is allowed, or refused for some reason
abbrev pub EventsAreJudged : Type 0
EventsAreJudged = (s : Scene) → IsSound s → (workers : ℕ) (d : Course) (e : Event)
    → ((next : Course) × Allows s workers d e next) ⊎ ((r : Refused) × Refuses s workers d e r)

-- and not both
abbrev pub AllowedIsNotRefused : Type 0
AllowedIsNotRefused = (s : Scene) (workers : ℕ) (d next : Course) (e : Event) (r : Refused)
    → Allows s workers d e next → ¬ Refuses s workers d e r

-- and for no two reasons
abbrev pub OneRefusal : Type 0
OneRefusal = (s : Scene) (workers : ℕ) (d : Course) (e : Event) (r other : Refused)
    → Refuses s workers d e r → Refuses s workers d e other → r ≡ other

-- ---- schedules

-- a run among so many workers is a run
abbrev pub RunsAmongAreRuns : Type 0
RunsAmongAreRuns = (s : Scene) (workers : ℕ) (es : List Event) (d end : Course)
    → RunsAmong s workers d es end → Runs s d es end

-- a whole run has no fault but that memory is refused
abbrev pub WholeRunsHaveNoFault : Type 0
WholeRunsHaveNoFault = (s : Scene) (workers : ℕ) (es : List Event) (fault : ScheduleFault)
    → IsWholeAmong s workers es → IsFault s workers es fault → fault ≡ OutOfMemory

-- and no list has two others
abbrev pub OneFault : Type 0
OneFault = (s : Scene) (workers : ℕ) (es : List Event) (fault other : ScheduleFault)
    → IsFault s workers es fault → IsFault s workers es other
    → fault ≢ OutOfMemory → other ≢ OutOfMemory → fault ≡ other
