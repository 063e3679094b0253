use Rattle.std.proofs.Common.{take}
use Rattle.bk_cert.specs.Spelling.{AreDigests}
use Rattle.bk_cert.proofs.header.know_sizes.Given as goal

abbrev pub invariant-loop-digest : goal.invariant-loop-digest
invariant-loop-digest l = AreDigests (take l.digest-index l.digests)
