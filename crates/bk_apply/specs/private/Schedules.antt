-- What the private functions of a schedule say.
use Rattle.std.specs.Prelude.{◌≡◌, ℕ, List}
use Rattle.bk_base.specs.Feed.{FeedValue, genesis_of}
use Rattle.bk_rules.specs.Fold.{state_after, receipts_of}
use Rattle.bk_steps.specs.Schedule.{IsWholeAmong, IsFault}
use Rattle.bk_steps.specs.declared.event.Event.{Event}
use Rattle.bk_steps.specs.declared.outcome.Outcome.{Outcome}
use Rattle.bk_steps.specs.declared.outcome.ScheduleFault.{ScheduleFault}
use Rattle.bk_steps.specs.declared.outcome.ScheduleFault.TheVariants.{Refused, Unfinished, OutOfMemory}
use Rattle.bk_results.specs.declared.fault.Fault.{Fault}
use Rattle.bk_results.specs.declared.fault.Fault.TheVariants as fault
use Rattle.bk_apply.specs.declared.scheduling.ScheduleStop.{ScheduleStop}
use Rattle.bk_apply.specs.declared.scheduling.ScheduleStop.TheVariants as stop
use Rattle.bk_tx.specs.Batches.{feed_transactions}
use Rattle.bk_apply.specs.Scheduling.{InExecution, IsOfEvents}

-- the stop of a fault: refused memory is that of any other call
abbrev pub stop_of : ScheduleFault → ScheduleStop
stop_of (Refused index why) = stop.Schedule (Refused index why)
stop_of (Unfinished place) = stop.Schedule (Unfinished place)
stop_of OutOfMemory = stop.Fault fault.Memory

-- memory ran out
abbrev pub IsMemory : Fault → Type 0
IsMemory (fault.Feed found) = ⊥
IsMemory (fault.Collision id) = ⊥
IsMemory (fault.Equivocation round author first second) = ⊥
IsMemory (fault.Unfinished place) = ⊥
IsMemory (fault.Write written) = ⊥
IsMemory fault.Memory = Unit {0}

-- why the events of a feed give nothing: memory ran out, or they are no whole run
abbrev pub Unscheduled : FeedValue → ℕ → List Event → ScheduleStop → Type 0
Unscheduled feed workers events (stop.Fault found) = IsMemory found
Unscheduled feed workers events (stop.Schedule found) =
    IsOfEvents found × InExecution feed (λ s. IsFault s workers events found)

-- what the events gave: they are a whole run, with what the feed's transactions give one at a time
pub record IsScheduled (feed : FeedValue) (workers : ℕ) (events : List Event) (o : Outcome) : Type 0 where
  pub whole : InExecution feed (λ s. IsWholeAmong s workers events)
  pub rows : o.state.rows ≡ state_after feed.version (feed_transactions feed.frames) (genesis_of feed.frames)
  pub receipts : o.receipts.items ≡ receipts_of feed.version (feed_transactions feed.frames) (genesis_of feed.frames)
