-- What a schedule leaves: its report, or why there is none.
use Rattle.std.proofs.Common.{◌≡◌, ℕ, List, Option, Some, None, IfSome, refl}
use Rattle.std.specs.Prelude.{Ok}
use Rattle.std.specs.Io.KnownBytes.{Keeps}
use Rattle.bk_frames.specs.Device.{Device}
use Rattle.bk_steps.specs.declared.outcome.ScheduleFault.TheVariants as schedule
use Rattle.bk_results.specs.Devices.{OfText, devices}
use Rattle.bk_apply.specs.Scheduling.{StopsBy}
use Rattle.bk_apply.specs.declared.scheduling.ScheduleStop.{ScheduleStop}
use Rattle.bk_apply.specs.declared.scheduling.ScheduleStop.TheVariants as stop
use Rattle.bk_script.specs.Events.{AreEvents, EventList, HasNoEvents, event_list, events_of}
use Rattle.bk_script.specs.declared.making.TheConstants.{MOST_SCRIPT}
use Rattle.bk_script.specs.declared.events.Events.{Events}
use Rattle.bk_results.specs.declared.lines_fault.LinesFault.{LinesFault}
use Rattle.bk_jobs.specs.Schedules.{IsList, ScheduleFailsBy, fault_at}
use Rattle.bk_jobs.specs.Sources.{job_devices}
use Rattle.bk_cli.specs.declared.list_fault.ListFault.TheVariants as list
use Rattle.bk_cli.specs.declared.job_fault.JobFault.TheVariants as fault

keeps_all : (b : Option (List ℕ)) → Keeps b b
keeps_all None = tt
keeps_all (Some bytes) = refl

is_list : (events : EventList) (old new : Device) → OfText MOST_SCRIPT old new (λ t. events_of t ≡ Ok events) → OfText MOST_SCRIPT old new IsList
is_list events old new ((text, gives, (ends, is)), known) = ((text, gives, (ends, (events, is))), by_known old.bytes known)
  where
    by_known : (b : Option (List ℕ)) → IfSome b (λ t. events_of t ≡ Ok events) → IfSome b IsList
    by_known None is = tt
    by_known (Some t) is = (events, is)

-- ---- why there is none

-- the list was not read: the feed and standard output are as they were
pub not_listed : (workers : ℕ) (e : LinesFault) (feed source source' out : Device) → HasNoEvents e source source'
    → ScheduleFailsBy workers (fault.Events (list.Unread e)) (job_devices feed source out) (job_devices feed source' out)
not_listed workers e feed source source' out h = (h, refl, (refl, keeps_all out.bytes))

pub not_scheduled : (workers : ℕ) (events : Events) (why : ScheduleStop) (feed feed' source source' out out' : Device)
    → AreEvents source source' events → StopsBy why workers events.list.items (devices feed out) (devices feed' out')
    → ScheduleFailsBy workers (fault_at why events.lines.items) (job_devices feed source out) (job_devices feed' source' out')
not_scheduled workers events (stop.Fault e) feed feed' source source' out out' are h =
    (are.0, is_list (event_list events) source source' are.1, h)
not_scheduled workers events (stop.Schedule (schedule.Refused index why)) feed feed' source source' out out' are h =
    (are.0, (event_list events, are.1, (index, refl, h.2)), h.1)
not_scheduled workers events (stop.Schedule (schedule.Unfinished place)) feed feed' source source' out out' are h =
    (are.0, (event_list events, are.1, h.2), h.1)
not_scheduled workers events (stop.Schedule schedule.OutOfMemory) feed feed' source source' out out' are h = absurd h.0
