use Rattle.std.proofs.Common.{refl, ◌∙◌, arith}
use Rattle.bk_pool.proofs.Ended.{none_added, more_added}
use Rattle.bk_pool.proofs.outcome.push_receipts.Goals as goal

pub loop-place-init : goal.loop-place-init
loop-place-init c = record { added = none_added c.args.words.now c.args.receipts.now.items; count = omega arith; room = refl }

pub loop-place-preserved : goal.loop-place-preserved
loop-place-preserved c = record {
  added = rw (c.push_reserved.ensures.items, c.of.ensures) (more_added c.args.words.now c.args.receipts.now.items c.loop-place.receipts.items c.loop-place.place c.receipt_of.result c.loop-place.invariant.added c.receipt_of.ensures.status c.receipt_of.ensures.moved);
  count = omega (arith, c.push_reserved.ensures.len, c.loop-place.invariant.count);
  room = c.push_reserved.ensures.capacity ∙ c.loop-place.invariant.room;
}
