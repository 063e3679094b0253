use Rattle.std.proofs.Common.{◌≡◌, take}
use Rattle.bk_cert.proofs.header.digests_of.Given as goal

abbrev pub invariant-loop-piece : goal.invariant-loop-piece
invariant-loop-piece l = l.digests.items ≡ take l.piece-index l.pieces
