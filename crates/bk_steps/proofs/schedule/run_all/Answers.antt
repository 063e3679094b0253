use Rattle.bk_steps.proofs.Scheduled.{run_next}
use Rattle.bk_steps.proofs.schedule.run_all.Goals as goal

pub loop-index-preserved : goal.loop-index-preserved
loop-index-preserved c = run_next c.args.machine.now c.loop-index.machine c.step.new.self c.args.events.now c.loop-index.index _
    c.loop-index-test.true c.loop-index.invariant c.in_default.ensures.allowed
