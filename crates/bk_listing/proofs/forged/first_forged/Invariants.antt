use Rattle.std.proofs.Common.{take}
use Rattle.bk_frames.specs.Cutting.{frames_in}
use Rattle.bk_listing.proofs.Forgeries.{NoneForged}
use Rattle.bk_listing.proofs.forged.first_forged.Given as goal

abbrev pub invariant-loop-i : goal.invariant-loop-i
invariant-loop-i l = NoneForged l.committee (frames_in (take l.i l.frames))
