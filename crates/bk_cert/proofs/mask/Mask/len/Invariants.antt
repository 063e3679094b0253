use Rattle.std.proofs.Common.{◌≡◌, ◌*◌, length}
use Rattle.bk_cert.proofs.Marks.{marked}
use Rattle.bk_cert.proofs.mask.Mask.len.Given as goal

abbrev pub invariant-loop-byte : goal.invariant-loop-byte
invariant-loop-byte l = l.signers ≡ length (marked l.self (8 * l.byte-index))
