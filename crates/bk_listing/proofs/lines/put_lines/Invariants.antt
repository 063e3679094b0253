use Rattle.std.proofs.Common.{take}
use Rattle.bk_frames.specs.Cutting.{frames_in}
use Rattle.bk_listing.specs.private.FrameRow.{PutsLines}
use Rattle.bk_listing.proofs.lines.put_lines.Given as goal

abbrev pub invariant-loop-i : goal.invariant-loop-i
invariant-loop-i l = PutsLines l.committee l.initial.place l.place (frames_in (take l.i l.frames)) l.initial.text.items l.text.items
