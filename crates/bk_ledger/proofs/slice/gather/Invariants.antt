use Rattle.std.proofs.Common.{◌≡◌, ◌+◌, ◌≤◌, length, map}
use Rattle.bk_ledger.specs.private.Slices.{IsSliceOf}
use Rattle.bk_ledger.proofs.slice.gather.Given as goal

abbrev pub invariant-loop-index : goal.invariant-loop-index
invariant-loop-index l = record {
  slice : IsSliceOf (map (λ p. p.now) l.payloads) l.from l.batches.counts.items l.batches.txs.items;
  at : l.from + length l.batches.counts.items ≡ l.index;
  within : l.index ≤ l.end;
  few : length l.batches.txs.items ≤ l.least;
}
