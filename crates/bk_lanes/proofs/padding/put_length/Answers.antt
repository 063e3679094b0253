use Rattle.std.proofs.Common.{◌∙◌}
use Rattle.bk_lanes.proofs.Blocks.{put_length_is}
use Rattle.bk_lanes.proofs.padding.put_length.Goals as goal

pub returns : goal.returns
returns c =
    put_length_is c.args.block.now _ _ (c.copy_from_slice.ensures.after ∙ c.to_be_bytes.ensures) c.told-block
