use Rattle.bk_flatten.proofs.Growth.{batches_begin}
use Rattle.bk_flatten.proofs.laws.batches_grow.Goals as goal

pub returns : goal.returns
returns c = batches_begin
