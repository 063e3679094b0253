use Rattle.std.proofs.Common.{◌≡◌, length, take}
use Rattle.bk_flatten.proofs.digests.cut.Given as goal

abbrev pub invariant-loop-digests : goal.invariant-loop-digests
invariant-loop-digests l = take l.len l.digests ≡ take l.len l.fn.digests

abbrev pub decreases-loop-digests : goal.decreases-loop-digests
decreases-loop-digests l = length l.digests
