use Rattle.std.proofs.Common.{◌+◌, ◌-◌, length, arith}
use Rattle.bk_lanes.proofs.Blocks.{ended_first}
use Rattle.bk_lanes.proofs.message.ended_after.Goals as goal

pub returns : goal.returns
returns c =
    ended_first c.args.first c.args.bytes.now c.copy_from_slice.new.self (length c.args.bytes.now + 1 - 1) c.copy_from_slice.ensures.after c.requires (omega arith)
