use Rattle.std.proofs.Common.{◌≡◌, ◌+◌, length, drop}
use Rattle.bk_flatten.specs.Batches.{AreFound}
use Rattle.bk_flatten.proofs.batches.found_from.Given as goal

abbrev pub invariant-loop-k : goal.invariant-loop-k
invariant-loop-k l = AreFound l.batches (drop l.from l.digests) l.part.items × (l.from + length l.part.items ≡ l.k)
