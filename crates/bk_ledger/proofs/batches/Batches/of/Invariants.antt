use Rattle.std.proofs.Common.{◌≡◌, map, take}
use Rattle.bk_tx.specs.Batches.{count_in, payloads_of, feed_transactions}
use Rattle.bk_ledger.proofs.batches.Batches.of.Given as goal

abbrev pub invariant-loop-index : goal.invariant-loop-index
invariant-loop-index l = record {
  counts : l.batches.counts.items ≡ map count_in (payloads_of (take l.index l.feed.frames));
  txs : l.batches.txs.items ≡ feed_transactions (take l.index l.feed.frames);
}
