use Rattle.std.proofs.Common.{◌<◌}
use Rattle.bk_lanes.proofs.work.least.Given as goal

abbrev pub invariant-lanes : goal.invariant-lanes
invariant-lanes l = l.lane < 8
