use Rattle.std.proofs.Common.{◌∙◌, length-set}
use Rattle.bk_steps.proofs.Ruled.{noted_more}
use Rattle.bk_steps.proofs.seat.values_of.Goals as goal

pub loop-k-preserved : goal.loop-k-preserved
loop-k-preserved c = record {
  long = length-set c.loop-k.values c.loop-k.k c.unwrap_or.result ∙ c.loop-k.invariant.long;
  so_far = noted_more c.args.read.now c.loop-k.values c.loop-k.k c.unwrap_or.result c.loop-k.invariant.long c.loop-k-test.true c.unwrap_or.ensures c.loop-k.invariant.so_far;
}
