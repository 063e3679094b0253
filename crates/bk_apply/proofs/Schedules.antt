-- The transactions of a feed by a list of events.
use Rattle.std.proofs.Common.{◌≡◌, ℕ, ◌+◌, ◌^◌, ◌<◌, List, [], length, Option, sym, ap, subst, ◌∙◌, arith}
use Rattle.bk_frames.proofs.Devices.{gave_all}
use Rattle.bk_base.specs.declared.genesis.Row.{Row}
use Rattle.bk_base.specs.declared.version.Version.{Version}
use Rattle.bk_frames.specs.Device.{Device, Works, GaveAll}
use Rattle.bk_base.specs.Feed.{FeedValue, IsFeed, spelling, genesis_of}
use Rattle.bk_base.specs.Genesis.{AreAccounts, ids_of}
use Rattle.bk_tx.specs.Transaction.{Transaction}
use Rattle.bk_rules.specs.Fold.{state_after, receipts_of, HasRoom}
use Rattle.bk_rules.specs.Ledger.{Ledger, ledger_of, IsPrepared, rows_shown, slot_numbers}
use Rattle.bk_rules.specs.Rows.{IsLedger}
use Rattle.bk_rules.proofs.Room.{room_left}
use Rattle.bk_conflicts.specs.Plan.{PlanValue, IsPlan}
use Rattle.bk_conflicts.specs.SceneOf.{CanRunOn, scene_of}
use Rattle.bk_steps.specs.Schedule.{IsWholeAmong, IsFoldOf, IsFault}
use Rattle.bk_steps.specs.declared.event.Event.{Event}
use Rattle.bk_steps.specs.declared.outcome.Outcome.{Outcome}
use Rattle.bk_steps.specs.declared.outcome.ScheduleFault.{ScheduleFault}
use Rattle.bk_steps.specs.declared.outcome.ScheduleFault.TheVariants.{Refused, Unfinished, OutOfMemory}
use Rattle.bk_results.specs.declared.fault.Fault.TheVariants as fault
use Rattle.bk_apply.specs.declared.scheduling.ScheduleStop.{ScheduleStop}
use Rattle.bk_apply.specs.declared.scheduling.ScheduleStop.TheVariants as stop
use Rattle.bk_results.specs.Devices.{devices}
use Rattle.bk_tx.specs.Batches.{feed_transactions}
use Rattle.bk_apply.specs.Scheduling.{opening_of, IsPlanOfFeed, InExecutionOf, StopsBy}
use Rattle.bk_apply.specs.private.Schedules.{stop_of, Unscheduled, IsScheduled}
use Rattle.std.proofs.lemmas.List.{length-map}
use Rattle.bk_base.proofs.Accounts.{genesis_few}
use Rattle.bk_ledger.specs.Naming.{named_by}
use Rattle.bk_ledger.proofs.Growth.{slots_long, few_named}
use Rattle.bk_ledger.proofs.Runs.{few_feed_transactions}
use Rattle.bk_apply.proofs.FeedReports.{untouched, are_feed}

-- ---- the plan of a feed

-- a ledger of the rows of genesis, by the rules of the feed
pub opens : (feed : FeedValue) (v : Version) (rows : List Row) (opening : Ledger) → v ≡ feed.version → rows ≡ genesis_of feed.frames → opening ≡ ledger_of v (ids_of rows) rows
    → opening ≡ opening_of feed
opens feed v rows opening version genesis e = e ∙ (λ j. ledger_of (version j) (ids_of (genesis j)) (genesis j))

-- the plan of the transactions on the ledger that was prepared for them
pub plan_of_feed : (feed : FeedValue) (txs : List (Option Transaction)) (opening ledger : Ledger) (plan : PlanValue) → txs ≡ feed_transactions feed.frames → opening ≡ opening_of feed
    → IsPrepared txs opening ledger → IsPlan plan → plan.version ≡ ledger.version → plan.ids ≡ ledger.slots → plan.txs ≡ txs → IsPlanOfFeed feed plan ledger
plan_of_feed feed txs opening ledger plan all opened prepared is_plan version ids same = record {
  is_plan = is_plan;
  version = version ∙ prepared.version ∙ ap (λ (l : Ledger). l.version) opened;
  txs_are = same ∙ all;
  ids = ids;
  prepared = subst (λ (y : List (Option Transaction) × Ledger). IsPrepared y.0 y.1 ledger) (λ j. (all j, opened j)) prepared;
}

-- a feed has too few bytes to name 2^31 accounts
pub few_slots : (feed : FeedValue) (txs : List (Option Transaction)) (opening ledger : Ledger) (ids : List ℕ) → IsFeed feed → txs ≡ feed_transactions feed.frames → opening ≡ opening_of feed → IsPrepared txs opening ledger → ids ≡ ledger.slots → length ids < 2 ^ 31
few_slots feed txs opening ledger ids good all opened prepared same =
    omega (arith, ap length same, slots_long txs opening ledger prepared, ap (λ (l : Ledger). length l.slots) opened, length-map (genesis_of feed.frames) (λ (r : Row). r.id), genesis_few feed.frames, ap named_by all, few_named feed good)

-- making slots leaves the room as it was
room_after : (txs : List (Option Transaction)) (n : ℕ) (old new : Ledger) → IsPrepared txs old new → HasRoom old.version n old.rows → HasRoom new.version n new.rows
room_after txs n old new prepared room = subst (λ (y : Version × List Row). HasRoom y.0 n y.1) (λ j. (sym prepared.version j, sym prepared.rows j)) room

-- there is room for all transactions
pub feed_room : (feed : FeedValue) (txs : List (Option Transaction)) (opening ledger : Ledger) → IsFeed feed → AreAccounts (genesis_of feed.frames) → txs ≡ feed_transactions feed.frames
    → opening ≡ opening_of feed → IsPrepared txs opening ledger → HasRoom ledger.version (length txs) ledger.rows
feed_room feed txs opening ledger good accounts all opened prepared =
    let none : List (Option Transaction) = [] in
    let few : length none + length (feed_transactions feed.frames) < 2 ^ 63 = omega (arith, few_feed_transactions feed good) in
    let room : HasRoom feed.version (length (feed_transactions feed.frames)) (genesis_of feed.frames) = room_left feed.version [] (length (feed_transactions feed.frames)) (genesis_of feed.frames) accounts few in
    room_after txs (length txs) opening ledger prepared
    (subst (λ (y : Ledger × ℕ). HasRoom y.0.version y.1 y.0.rows) (λ j. (sym opened j, ap length (sym all) j)) room)

pub runs_on : (txs : List (Option Transaction)) (ledger : Ledger) (plan : PlanValue) → plan.version ≡ ledger.version → plan.ids ≡ ledger.slots → plan.txs ≡ txs → IsLedger ledger.rows
    → rows_shown ledger.version ledger.slots (slot_numbers ledger) ≡ ledger.rows → HasRoom ledger.version (length txs) ledger.rows → CanRunOn plan ledger
runs_on txs ledger plan version ids same is_ledger shown room = record {
  same_version = sym version;
  same_slots = sym ids;
  is_ledger = is_ledger;
  has_room = subst (λ (y : Version × ℕ). HasRoom y.0 y.1 ledger.rows) (λ j. (sym version j, ap length (sym same) j)) room;
  slots_show = (λ j. rows_shown (version j) (ids j) (slot_numbers ledger)) ∙ shown;
}

pub few_places : (feed : FeedValue) (txs : List (Option Transaction)) → IsFeed feed → txs ≡ feed_transactions feed.frames → length txs < 2 ^ 31
few_places feed txs good all = omega (arith, ap length all, few_feed_transactions feed good)

-- ---- what its events give

pub is_scheduled : (feed : FeedValue) (workers : ℕ) (events : List Event) (plan : PlanValue) (ledger : Ledger) (o : Outcome) → IsPlanOfFeed feed plan ledger
    → IsWholeAmong (scene_of plan ledger) workers events → IsFoldOf plan ledger o → IsScheduled feed workers events o
is_scheduled feed workers events plan ledger o of whole fold = record {
  whole = (plan, ledger, of, whole);
  rows = ap (λ (l : Ledger). l.rows) fold.state ∙ (λ j. state_after (of.prepared.version j) (of.txs_are j) (of.prepared.rows j));
  receipts = fold.receipts ∙ (λ j. receipts_of (of.prepared.version j) (of.txs_are j) (of.prepared.rows j));
}

pub unscheduled : (feed : FeedValue) (workers : ℕ) (events : List Event) (plan : PlanValue) (ledger : Ledger) (f : ScheduleFault) → IsPlanOfFeed feed plan ledger
    → IsFault (scene_of plan ledger) workers events f → Unscheduled feed workers events (stop_of f)
unscheduled feed workers events plan ledger (Refused index why) of bad = (tt, (plan, ledger, of, bad))
unscheduled feed workers events plan ledger (Unfinished place) of bad = (tt, (plan, ledger, of, bad))
unscheduled feed workers events plan ledger OutOfMemory of bad = tt

-- ---- of the bytes of a source

-- memory ran out after the feed was read
pub stops_memory : (workers : ℕ) (events : List Event) (source source' sink : Device) (feed : FeedValue) → Works source source' → IsFeed feed
    → GaveAll source source' (λ bytes. bytes ≡ spelling feed) → StopsBy (stop.Fault fault.Memory) workers events (devices source sink) (devices source' sink)
stops_memory workers events source source' sink feed works good spelled = (works, are_feed source source' feed good spelled, untouched sink)

-- its events gave nothing
pub stops_unscheduled : (e : ScheduleStop) (workers : ℕ) (events : List Event) (source source' sink : Device) (feed : FeedValue) → Works source source' → IsFeed feed
    → GaveAll source source' (λ bytes. bytes ≡ spelling feed) → Unscheduled feed workers events e → StopsBy e workers events (devices source sink) (devices source' sink)
stops_unscheduled (stop.Fault fault.Memory) workers events source source' sink feed works good spelled bad = stops_memory workers events source source' sink feed works good spelled
stops_unscheduled (stop.Fault (fault.Feed found)) workers events source source' sink feed works good spelled bad = absurd bad
stops_unscheduled (stop.Fault (fault.Collision id)) workers events source source' sink feed works good spelled bad = absurd bad
stops_unscheduled (stop.Fault (fault.Equivocation round author first second)) workers events source source' sink feed works good spelled bad = absurd bad
stops_unscheduled (stop.Fault (fault.Unfinished place)) workers events source source' sink feed works good spelled bad = absurd bad
stops_unscheduled (stop.Fault (fault.Write written)) workers events source source' sink feed works good spelled bad = absurd bad
stops_unscheduled (stop.Schedule found) workers events source source' sink feed works good spelled bad =
    (bad.0, (works, untouched sink), gave_all source source' (λ bytes. bytes ≡ spelling feed) (λ bytes. InExecutionOf bytes (λ s. IsFault s workers events found)) spelled (λ bytes is. (feed, good, is, bad.1)))
