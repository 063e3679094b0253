use Rattle.std.proofs.Common.{take}
use Rattle.bk_steps.specs.private.Schedule.{HasRun}
use Rattle.bk_steps.proofs.schedule.run_all.Given as goal

abbrev pub invariant-loop-index : goal.invariant-loop-index
invariant-loop-index l = HasRun l.fn.machine (take l.index l.events) l.machine
