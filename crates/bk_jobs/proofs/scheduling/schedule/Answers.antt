-- The list is read first; then the feed is executed by its events.
use Rattle.bk_script.specs.Events.{event_list}
use Rattle.bk_jobs.proofs.ScheduleLemmas.{not_listed, not_scheduled}
use Rattle.bk_jobs.proofs.scheduling.schedule.Goals as goal

pub returns-in-Ok-apply_schedule : goal.returns-in-Ok-apply_schedule
returns-in-Ok-apply_schedule g c = (
  c.with.ensures,
  (c.in-Ok-apply_schedule.ensures.sound.0, c.in-Ok.ensures.events.0, c.in-Ok-apply_schedule.ensures.sound.1),
  (event_list c.in-Ok.listed, c.in-Ok.ensures.events.1, rw (← c.number.ensures, ← c.deref.ensures.value) c.in-Ok-apply_schedule.ensures.report),
)

pub returns : goal.returns
returns g c =
    rw (c.fault_at.ensures, c.deref-in-Err-apply_schedule.ensures.value) (not_scheduled c.args.workers c.in-Ok.listed c.in-Err-apply_schedule.stop (g.S1.Source.state c.args.feed.now) (g.S1.Source.state c.apply_schedule.new.source)
    (g.S2.Source.state c.args.events.now) (g.S2.Source.state c.read_events.new.source) (g.O.Sink.state c.args.out.now) (g.O.Sink.state c.apply_schedule.new.sink) c.in-Ok.ensures.events
    (rw (← c.number.ensures, ← c.deref.ensures.value) c.in-Err-apply_schedule.ensures.stop))
