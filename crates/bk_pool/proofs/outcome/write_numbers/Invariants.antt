use Rattle.std.proofs.Common.{◌≡◌, ◌*◌, length, take}
use Rattle.bk_pool.specs.private.Receipts.{AreNumbers}
use Rattle.bk_pool.proofs.outcome.write_numbers.Given as goal

abbrev pub invariant-loop-k : goal.invariant-loop-k
invariant-loop-k l = record {
  long : length l.numbers ≡ length l.initial.numbers;
  written : AreNumbers l.words (take l.k l.numbers) (2 * l.k);
}
