use Rattle.std.proofs.Common.{◌≡◌, ◌+◌, ◌*◌, ◌-◌, ◌≤◌, length, drop, All}
use Rattle.bk_tx.specs.Batch.{IsWithin, cuts, FollowFrom}
use Rattle.bk_tx.proofs.Batches.{end_of}
use Rattle.bk_base.specs.Numbers.{list_at}
use Rattle.bk_tx.specs.Reading.{text_at}
use Rattle.bk_base.proofs.Lists.{with_front}
use Rattle.bk_tx.proofs.batch.batch.Given as goal

abbrev pub invariant-loop : goal.invariant-loop
invariant-loop l = record {
  low : l.at ≤ 2 + 65537 * l.counter;
  end : end_of 2 l.slices.items ≡ l.at;
  places : FollowFrom 2 l.slices.items;
  inside : l.at ≤ length l.bytes;
  within : All (IsWithin l.bytes) l.slices.items;
  read : with_front (cuts l.bytes l.slices.items) (list_at text_at (l.count - l.counter) (drop l.at l.bytes)) ≡ list_at text_at l.count (drop 2 l.bytes);
}
