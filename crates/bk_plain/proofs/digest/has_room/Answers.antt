use Rattle.std.proofs.Common.{arith}
use Rattle.bk_plain.proofs.Depths.{deep_enough}
use Rattle.bk_plain.proofs.digest.has_room.Goals as goal

pub returns-then-depth-ge64-clause-room : goal.returns-then-depth-ge64-clause-room
returns-then-depth-ge64-clause-room c = deep_enough c.args.depth c.args.count c.if-depth-ge64.true (omega arith)
