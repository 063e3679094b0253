use Rattle.std.proofs.Common.{◌+◌, arith, slice_index_or}
use Rattle.bk_digest.proofs.TagBlocks.{item_tagged}
use Rattle.bk_digest.proofs.tags.tagged_from.Goals as goal

pub returns : goal.returns
returns c = λ i lt le d.
    item_tagged (slice_index_or c.args.of.now (c.args.from + i) d) _ _ _ _ _ _ (c.id_blocks.ensures.sized i lt le d) (c.inner_states-inner.ensures i lt le d)
    (c.id_blocks.ensures.these i lt le d) (c.compress_each.ensures.taken i (omega arith)) (c.outer_states-outer.ensures i lt le d)
    (c.digest_blocks.ensures i lt) (c.compress_each-2.ensures.taken i (omega arith))
