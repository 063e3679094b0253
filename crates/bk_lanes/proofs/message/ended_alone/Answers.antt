use Rattle.std.proofs.Common.{refl}
use Rattle.bk_lanes.proofs.Blocks.{ended_is}
use Rattle.bk_lanes.proofs.message.ended_alone.Goals as goal

pub returns : goal.returns
returns c = ended_is c.args.bytes.now c.copy_from_slice.new.self _ c.copy_from_slice.ensures.after c.requires refl
