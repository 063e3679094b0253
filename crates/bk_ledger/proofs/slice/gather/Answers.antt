use Rattle.std.proofs.Common.{◌<◌, ap, ◌∙◌, length, arith}
use Rattle.bk_ledger.proofs.SliceLemmas.{lent_at, lent_count, one_more, slice_none, slice_more}
use Rattle.bk_ledger.proofs.slice.gather.Goals as goal

pub loop-index-init : goal.loop-index-init
loop-index-init c = let none = c.in_ok-reserve.ensures.items ∙ c.new-batches.ensures.txs in record {
  slice = slice_none _ c.args.from _ _ c.new-batches.ensures.counts none;
  at = omega (arith, ap length c.new-batches.ensures.counts);
  within = c.end_of-end.ensures.not_before;
  few = omega (arith, ap length none);
}

pub returns-then-len-least : goal.returns-then-len-least
returns-then-len-least c = record {
  slice = slice_more _ c.args.from c.loop-index.index _ c.loop-index.batches c.push.new.self c.loop-index.invariant.slice c.loop-index.invariant.at (lent_at c.args.payloads.now c.loop-index.index _ (omega (arith, c.loop-index-test.true, c.end_of-end.ensures.within))) c.in_ok-push.ensures.counts c.in_ok-push.ensures.txs;
  some = λ _. omega (arith, one_more _ _ _ c.in_ok-push.ensures.counts);
  within = omega (arith, lent_count c.args.payloads.now, c.end_of-end.ensures.within, c.loop-index.invariant.at, c.loop-index-test.true, one_more _ _ _ c.in_ok-push.ensures.counts);
  few = omega (arith, c.in_ok-push.ensures.few, c.loop-index.invariant.few, c.requires.least);
}

pub loop-index-preserved : goal.loop-index-preserved
loop-index-preserved c =
    record {
      slice = slice_more _ c.args.from c.loop-index.index _ c.loop-index.batches c.push.new.self c.loop-index.invariant.slice c.loop-index.invariant.at (lent_at c.args.payloads.now c.loop-index.index _ (omega (arith, c.loop-index-test.true, c.end_of-end.ensures.within))) c.in_ok-push.ensures.counts c.in_ok-push.ensures.txs;
      at = omega (arith, c.loop-index.invariant.at, one_more _ _ _ c.in_ok-push.ensures.counts);
      within = omega (arith, c.loop-index-test.true);
      few = omega (arith, c.if-len-least.false, c.len.ensures);
    }

pub returns : goal.returns
returns c = record {
  slice = c.loop-index.invariant.slice;
  some = λ low. let after : c.args.from < c.end_of-end.result = c.end_of-end.ensures.after (omega (arith, low, lent_count c.args.payloads.now)) in omega (arith, after, c.loop-index.invariant.at, c.loop-index-test.false);
  within = omega (arith, lent_count c.args.payloads.now, c.end_of-end.ensures.within, c.loop-index.invariant.at, c.loop-index.invariant.within);
  few = omega (arith, c.loop-index.invariant.few, c.requires.least);
}
