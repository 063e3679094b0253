use Rattle.std.proofs.Common.{◌-◌, ◌≤◌, length, take}
use Rattle.bk_frames.specs.Cutting.{CutsInto}
use Rattle.bk_frames.specs.private.Parts.{IsPart, IsShort, cut_of}
use Rattle.bk_frames.proofs.cutter.cut.Given as goal

abbrev pub invariant-loop-at : goal.invariant-loop-at
invariant-loop-at l = record {
  part : IsPart l.part;
  short : IsShort l.part;
  within : l.at ≤ length l.piece;
  cuts : CutsInto (cut_of l.initial.part) (take l.at l.piece) l.initial.out.items l.out.items (cut_of l.part);
}

abbrev pub decreases-loop-at : goal.decreases-loop-at
decreases-loop-at l = length l.piece - l.at
