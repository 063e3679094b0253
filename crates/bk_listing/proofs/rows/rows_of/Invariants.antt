use Rattle.std.proofs.Common.{take}
use Rattle.std.specs.List.{AllZip}
use Rattle.bk_frames.specs.Cutting.{frames_in}
use Rattle.bk_listing.specs.private.FrameRow.{IsRow}
use Rattle.bk_listing.proofs.rows.rows_of.Given as goal

abbrev pub invariant-loop-i : goal.invariant-loop-i
invariant-loop-i l = AllZip (IsRow l.committee) (frames_in (take l.i l.frames)) l.rows.items
