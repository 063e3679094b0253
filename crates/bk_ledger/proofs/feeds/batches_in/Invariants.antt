use Rattle.std.proofs.Common.{◌≡◌, map, take}
use Rattle.bk_tx.specs.Batches.{payloads_of}
use Rattle.bk_ledger.proofs.feeds.batches_in.Given as goal

abbrev pub invariant-loop-index : goal.invariant-loop-index
invariant-loop-index l = map (λ p. p.now) l.found.items ≡ payloads_of (take l.index l.feed.frames)
