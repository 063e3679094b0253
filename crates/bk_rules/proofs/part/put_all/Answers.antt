use Rattle.std.proofs.Common.{arith}
use Rattle.std.proofs.lemmas.Option.{slice_get-get_or}
use Rattle.bk_rules.proofs.Putting.{put_none, put_more}
use Rattle.bk_rules.proofs.part.put_all.Goals as goal

pub loop-k-init : goal.loop-k-init
loop-k-init c = put_none _ _ _

pub loop-k-preserved : goal.loop-k-preserved
loop-k-preserved c = put_more c.args.list.now c.args.part.now c.args.numbers.now c.loop-k.numbers c.put.new.numbers c.loop-k.k _ c.requires.indexes c.loop-k-test.true c.requires.same c.loop-k.invariant (slice_get-get_or c.args.part.now c.loop-k.k _ (omega (arith, c.loop-k-test.true, c.requires.same))) c.put.ensures
