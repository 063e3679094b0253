use Rattle.bk_ledger.proofs.Runs.{counts_next}
use Rattle.bk_ledger.proofs.BatchReading.{txs_next}
use Rattle.bk_ledger.proofs.batches.Batches.of.Goals as goal

pub loop-index-preserved : goal.loop-index-preserved
loop-index-preserved c =
    let frames = c.args.feed.now.frames in
    record {
      counts = counts_next frames c.loop-index.index _ _ _ c.frame-kind.ensures c.loop-index.invariant.counts c.in_ok-push_frame.ensures.counts;
      txs = txs_next frames c.loop-index.index _ _ _ c.frame-kind.ensures c.loop-index.invariant.txs c.in_ok-push_frame.ensures.txs;
    }
