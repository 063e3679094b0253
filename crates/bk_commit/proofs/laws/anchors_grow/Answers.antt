use Rattle.bk_commit.proofs.Settled.{anchors_begin}
use Rattle.bk_commit.proofs.laws.anchors_grow.Goals as goal

pub returns : goal.returns
returns c = λ z small large xs ys clear part. anchors_begin z small large clear part xs ys
