use Rattle.std.proofs.Common.{refl}
use Rattle.bk_digest.proofs.TagBlocks.{halves_joined}
use Rattle.bk_digest.proofs.block.joined.Goals as goal

pub returns : goal.returns
returns c = halves_joined _ _ _ _ _ c.copy_from_slice.ensures.after c.copy_from_slice-2.ensures.after c.told-left refl
