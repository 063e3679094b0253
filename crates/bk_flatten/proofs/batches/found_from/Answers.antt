use Rattle.std.proofs.Common.{arith}
use Rattle.bk_flatten.proofs.Taken.{found_more, found_ends, missing_there, none_left, read_there}
use Rattle.bk_flatten.proofs.batches.found_from.Goals as goal

pub returns-in-None : goal.returns-in-None
returns-in-None c =
    let at = read_there c.args.digests.now c.loop-k.k c.index-digests-k.result c.loop-k-test.true c.index-digests-k.is in
    λ found is before. found_ends c.args.batches.now c.args.digests.now found c.loop-k.part.items c.args.from c.loop-k.k is before
    c.loop-k.invariant.0 c.loop-k.invariant.1 (missing_there c.args.batches.now c.args.digests.now c.loop-k.k c.index-digests-k.result at c.in-None.ensures)

pub loop-k-preserved : goal.loop-k-preserved
loop-k-preserved c =
    let at = read_there c.args.digests.now c.loop-k.k c.index-digests-k.result c.loop-k-test.true c.index-digests-k.is in (
      rw c.in_ok-push-in-Some.ensures.items (found_more c.args.batches.now c.args.digests.now c.loop-k.part.items c.args.from c.loop-k.k c.index-digests-k.result c.in-Some.batch
          c.loop-k.invariant.0 c.loop-k.invariant.1 at c.in-Some.ensures),
      let l = c.in_ok-push-in-Some.ensures.len in let e = c.loop-k.invariant.1 in omega arith,
    )

pub returns : goal.returns
returns c = λ found is before. found_ends c.args.batches.now c.args.digests.now found c.loop-k.part.items c.args.from c.loop-k.k is before
    c.loop-k.invariant.0 c.loop-k.invariant.1 (none_left c.args.batches.now c.args.digests.now c.loop-k.k c.loop-k-test.false)
