use Rattle.std.proofs.Common.{◌≡◌, ◌+◌, vec_len, vec_capacity}
use Rattle.bk_pool.specs.private.Receipts.{AreAdded}
use Rattle.bk_pool.proofs.outcome.push_receipts.Given as goal

abbrev pub invariant-loop-place : goal.invariant-loop-place
invariant-loop-place l = record {
  added : AreAdded l.words l.initial.receipts.items l.receipts.items l.place;
  count : vec_len l.receipts ≡ vec_len l.initial.receipts + l.place;
  room : vec_capacity l.receipts ≡ vec_capacity l.initial.receipts;
}
