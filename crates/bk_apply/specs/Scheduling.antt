-- The schedules of a feed: its transactions, in feed order, by a given list of events.
use Rattle.std.specs.Prelude.{◌≡◌, ℕ, List}
use Rattle.bk_frames.specs.Device.{GaveAll}
use Rattle.bk_base.specs.Feed.{FeedValue, IsFeed, spelling, genesis_of}
use Rattle.bk_base.specs.Genesis.{ids_of}
use Rattle.bk_rules.specs.Ledger.{Ledger, ledger_of, IsPrepared}
use Rattle.bk_conflicts.specs.Plan.{PlanValue, IsPlan}
use Rattle.bk_conflicts.specs.Scene.{Scene}
use Rattle.bk_conflicts.specs.SceneOf.{scene_of}
use Rattle.bk_steps.specs.Schedule.{IsWholeAmong, IsFault}
use Rattle.bk_steps.specs.declared.event.Event.{Event}
use Rattle.bk_steps.specs.declared.outcome.ScheduleFault.{ScheduleFault}
use Rattle.bk_steps.specs.declared.outcome.ScheduleFault.TheVariants.{Refused, Unfinished, OutOfMemory}
use Rattle.bk_apply.specs.declared.scheduling.ScheduleStop.{ScheduleStop}
use Rattle.bk_apply.specs.declared.scheduling.ScheduleStop.TheVariants as stop
use Rattle.bk_results.specs.Devices.{Devices}
use Rattle.bk_apply.specs.Answers.{FailsBy}
use Rattle.bk_results.specs.Devices.{NothingHappened}
use Rattle.bk_tx.specs.Batches.{feed_transactions}

-- the accounts before the first transaction: those of genesis, each with a slot
abbrev pub opening_of : FeedValue → Ledger
opening_of feed = ledger_of feed.version (ids_of (genesis_of feed.frames)) (genesis_of feed.frames)

-- the plan is of the feed's transactions in feed order, and the ledger is of the opening accounts, with a slot for each
-- account that the plan needs
pub record IsPlanOfFeed (feed : FeedValue) (plan : PlanValue) (ledger : Ledger) : Type 0 where
  pub is_plan : IsPlan plan
  pub version : plan.version ≡ feed.version
  pub txs_are : plan.txs ≡ feed_transactions feed.frames
  pub ids : plan.ids ≡ ledger.slots
  pub prepared : IsPrepared (feed_transactions feed.frames) (opening_of feed) ledger

-- this holds of the execution of a feed's transactions on its opening accounts
abbrev pub InExecution : FeedValue → (Scene → Type 0) → Type 0
InExecution feed P = (plan : PlanValue) × (ledger : Ledger) × IsPlanOfFeed feed plan ledger × P (scene_of plan ledger)

-- the same of the feed that these bytes encode
abbrev pub InExecutionOf : List ℕ → (Scene → Type 0) → Type 0
InExecutionOf bytes P = (feed : FeedValue) × IsFeed feed × (bytes ≡ spelling feed) × InExecution feed P

-- bytes encode a feed, and the events are a whole run of its transactions, by this many workers
abbrev pub IsWholeFor : ℕ → List Event → List ℕ → Type 0
IsWholeFor workers events bytes = InExecutionOf bytes (λ s. IsWholeAmong s workers events)

-- bytes encode a feed, of whose transactions the events are no whole run, by this many workers, and this is why: the
-- first event that is refused, or the least place that is not done when all were allowed
abbrev pub IsNotWholeFor : ℕ → List Event → ScheduleFault → List ℕ → Type 0
IsNotWholeFor workers events found bytes = InExecutionOf bytes (λ s. IsFault s workers events found)

-- the fault is one of events, not of memory
abbrev pub IsOfEvents : ScheduleFault → Type 0
IsOfEvents (Refused index why) = Unit {0}
IsOfEvents (Unfinished place) = Unit {0}
IsOfEvents OutOfMemory = ⊥

-- why a schedule gives no report: as without events; or no call of either device failed, nothing is written, and the
-- events are no whole run
abbrev pub StopsBy : ScheduleStop → ℕ → List Event → Devices → Devices → Type 0
StopsBy (stop.Fault found) workers events old new = FailsBy found old new
StopsBy (stop.Schedule found) workers events old new =
    IsOfEvents found × NothingHappened old new
    × GaveAll old.source new.source (IsNotWholeFor workers events found)
