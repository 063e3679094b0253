use Rattle.bk_ledger.proofs.Runs.{payloads_next}
use Rattle.bk_ledger.proofs.feeds.batches_in.Goals as goal

pub loop-index-preserved : goal.loop-index-preserved
loop-index-preserved c = payloads_next c.args.feed.now.frames c.loop-index.index _ _ _ c.frame-kind.ensures c.loop-index.invariant c.in_ok-push_batch.ensures
