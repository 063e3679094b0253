use Rattle.std.proofs.Common.{◌+◌, arith}
use Rattle.bk_digest.proofs.TagBlocks.{one_more_tag}
use Rattle.bk_digest.proofs.tags.push_tags.Goals as goal

pub each-preserved : goal.each-preserved
each-preserved g c =
    one_more_tag c.args.of.now (c.args.from + c.each.i) _ c.each.tags.items _ _ (omega arith) (omega arith) c.each.invariant
    (λ d. rw (c.new.ensures, c.digest_bytes.ensures) (c.tagged_from-states.ensures c.each.i (omega arith) (omega arith) d)) c.in_ok-push.ensures.items
