use Rattle.std.proofs.Common.{arith}
use Rattle.bk_lanes.proofs.Progress.{finished}
use Rattle.bk_lanes.proofs.work.count_block.Goals as goal

pub returns-then-work-lane-eq0-clause-done : goal.returns-then-work-lane-eq0-clause-done
returns-then-work-lane-eq0-clause-done c = λ n done k lt free.
    finished c.args.messages.now c.args.work.now c.args.out.now c.args.lane c.digest_of.result n k c.requires.room c.requires.taken c.if-work-lane-gt0.true c.if-work-lane-eq0.true (omega arith) c.digest_of.ensures done lt free
