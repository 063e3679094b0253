use Rattle.std.proofs.Common.{arith}
use Rattle.bk_steps.proofs.Counted.{one_less, less_more, less_all}
use Rattle.bk_steps.proofs.waits.release.Goals as goal

pub bounds-waits-after : goal.bounds-waits-after
bounds-waits-after c = (one_less c.args.after.now c.loop-k.waits c.loop-k.k c.loop-k-test.true c.loop-k.invariant.fits).0

pub bounds-waits-after-in-loop-k : goal.bounds-waits-after-in-loop-k
bounds-waits-after-in-loop-k c = (one_less c.args.after.now c.loop-k.waits c.loop-k.k c.loop-k-test.true c.loop-k.invariant.fits).0

pub overflow_sub-waits : goal.overflow_sub-waits
overflow_sub-waits c = let t = (one_less c.args.after.now c.loop-k.waits c.loop-k.k c.loop-k-test.true c.loop-k.invariant.fits).1 in omega arith

pub loop-k-preserved : goal.loop-k-preserved
loop-k-preserved c = less_more c.args.after.now c.args.waits.now c.loop-k.waits c.loop-k.k c.loop-k-test.true c.loop-k.invariant

pub returns-clause-less : goal.returns-clause-less
returns-clause-less c = less_all c.args.after.now c.args.waits.now c.loop-k.waits c.loop-k.k c.loop-k-test.false c.loop-k.invariant
