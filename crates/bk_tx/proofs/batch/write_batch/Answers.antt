use Rattle.std.proofs.Common.{length, ap, arith}
use Rattle.bk_tx.proofs.Batches.{short_at}
use Rattle.bk_tx.proofs.batch.write_batch.Goals as goal

pub put_text-requires : goal.put_text-requires
put_text-requires c = omega (arith, ap length c.as_slice.ensures.value, short_at c.args.texts.now c.loop-text.text-index c.text-item.result c.requires.short c.loop-text-test.true c.text-item.is)
