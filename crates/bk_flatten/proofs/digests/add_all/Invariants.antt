use Rattle.std.proofs.Common.{◌≡◌, take}
use Rattle.bk_flatten.specs.private.Listing.{with_digests}
use Rattle.bk_flatten.proofs.digests.add_all.Given as goal

abbrev pub invariant-loop-digest : goal.invariant-loop-digest
invariant-loop-digest l = l.digests ≡ with_digests l.fn.digests (take l.digest-index l.named)
