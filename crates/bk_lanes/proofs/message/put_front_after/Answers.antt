use Rattle.bk_lanes.proofs.Blocks.{front_first}
use Rattle.bk_lanes.proofs.message.put_front_after.Goals as goal

pub returns : goal.returns
returns c = front_first c.args.first c.args.block.now _ _ c.copy_from_slice.ensures.after c.told-block
