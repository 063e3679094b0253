-- The job of a schedule. Its feed is the first source; its list of events, which is read before the feed, the second.
use Rattle.std.specs.Prelude.{◌≡◌, ℕ, List, slice_index_or, Ok, Err}
use Rattle.bk_frames.specs.Device.{Device, Works, GaveAll}
use Rattle.bk_steps.specs.declared.outcome.ScheduleFault.TheVariants as schedule
use Rattle.bk_base.specs.declared.refused.Refused as reason
use Rattle.bk_apply.specs.Answers.{FailsBy}
use Rattle.bk_results.specs.Devices.{IsUntouched, NothingHappened, OfText}
use Rattle.bk_apply.specs.Scheduling.{IsNotWholeFor}
use Rattle.bk_results.specs.declared.fault.Fault.TheVariants as replay
use Rattle.bk_apply.specs.declared.scheduling.ScheduleStop.{ScheduleStop}
use Rattle.bk_apply.specs.declared.scheduling.ScheduleStop.TheVariants as stop
use Rattle.bk_script.specs.declared.making.TheConstants.{MOST_SCRIPT}
use Rattle.bk_script.specs.Events.{EventList, HasNoEvents, events_of}
use Rattle.bk_jobs.specs.Sources.{JobDevices, first_devices}
use Rattle.bk_cli.specs.declared.job_fault.JobFault.{JobFault}
use Rattle.bk_cli.specs.declared.job_fault.JobFault.TheVariants as fault
use Rattle.bk_cli.specs.declared.list_fault.ListFault.{ListFault}
use Rattle.bk_cli.specs.declared.list_fault.ListFault.TheVariants as list

-- the text is a list of events, of which this holds
abbrev pub Lists : (EventList → Type 0) → List ℕ → Type 0
Lists holds text = (events : EventList) × (events_of text ≡ Ok events) × holds events

-- the text is a list of events
abbrev pub IsList : List ℕ → Type 0
IsList text = (events : EventList) × (events_of text ≡ Ok events)

-- the text that the second source gave is a list of events, of which this holds
abbrev pub IsListed : JobDevices → JobDevices → (EventList → Type 0) → Type 0
IsListed old new holds =
    (events : EventList) × OfText MOST_SCRIPT old.second new.second (λ text. events_of text ≡ Ok events) × holds events

-- ---- why there is no report

-- the fault of the job by why its schedule gave no report: an event is named by its line
abbrev pub fault_at : ScheduleStop → List ℕ → JobFault
fault_at (stop.Fault e) lines = fault.Replay e
fault_at (stop.Schedule (schedule.Refused index why)) lines =
    fault.Events (list.Refused (slice_index_or lines index 0) why)
fault_at (stop.Schedule (schedule.Unfinished place)) lines = fault.Events (list.Unfinished place)
fault_at (stop.Schedule schedule.OutOfMemory) lines = fault.Replay replay.Memory

-- of these events, the one on this line is the first that is refused, for this reason
abbrev pub IsRefusedAt : ℕ → Device → Device → ℕ → reason.Refused → EventList → Type 0
IsRefusedAt workers old new line why events =
    (index : ℕ) × (line ≡ slice_index_or events.lines index 0)
    × GaveAll old new (IsNotWholeFor workers events.list (schedule.Refused index why))

-- these events are all allowed, and leave this place, the least, undone
abbrev pub IsLeftBy : ℕ → Device → Device → ℕ → EventList → Type 0
IsLeftBy workers old new place events =
    GaveAll old new (IsNotWholeFor workers events.list (schedule.Unfinished place))

-- why a list of events gives no report, by the fault: the list was not read, and the feed is as it was; an event is
-- refused; or a place is left. Nothing is written
abbrev pub ListFailsBy : ℕ → ListFault → JobDevices → JobDevices → Type 0
ListFailsBy workers (list.Unread e) old new =
    HasNoEvents e old.second new.second × (new.first ≡ old.first) × IsUntouched old.out new.out
ListFailsBy workers (list.Refused line why) old new =
    Works old.second new.second × IsListed old new (IsRefusedAt workers old.first new.first line why)
    × NothingHappened (first_devices old) (first_devices new)
ListFailsBy workers (list.Unfinished place) old new =
    Works old.second new.second × IsListed old new (IsLeftBy workers old.first new.first place)
    × NothingHappened (first_devices old) (first_devices new)

-- why a schedule has no report: the list of events was read, and the feed was not replayed; or it is the list
abbrev pub ScheduleFailsBy : ℕ → JobFault → JobDevices → JobDevices → Type 0
ScheduleFailsBy workers (fault.Replay e) old new =
    Works old.second new.second × OfText MOST_SCRIPT old.second new.second IsList
    × FailsBy e (first_devices old) (first_devices new)
ScheduleFailsBy workers (fault.Events e) old new = ListFailsBy workers e old new
ScheduleFailsBy workers other old new = ⊥

-- ---- bytes to blame

-- the text is no list of events: this is the first line with a fault
abbrev pub AreNoEvents : List ℕ → Type 0
AreNoEvents text = (line : ℕ) × (events_of text ≡ Err line)

-- the text is a list of events, of which one is refused when they are done on the feed's transactions
abbrev pub AreRefused : ℕ → List ℕ → List ℕ → Type 0
AreRefused workers bytes text =
    Lists (λ events. (index : ℕ) × (why : reason.Refused)
    × IsNotWholeFor workers events.list (schedule.Refused index why) bytes) text
