use Rattle.std.proofs.Common.{◌<◌, ◌≤◌, length}
use Rattle.bk_frames.specs.declared.pulling.TheConstants.{PIECE}
use Rattle.bk_frames.specs.Reading.{room_of}
use Rattle.bk_follow.proofs.Groups.{PullsSoFar}
use Rattle.bk_follow.proofs.pulling.pull_group.Given as goal

abbrev pub invariant-pieces : goal.invariant-pieces
invariant-pieces g l = record {
  pulls : PullsSoFar (g.S.Source.state l.initial.source) (g.S.Source.state l.source) l.initial.frames.items l.frames.items l.initial.cutter l.cutter;
  some : 0 < length l.piece;
  few : length l.piece ≤ PIECE;
}

abbrev pub decreases-pieces : goal.decreases-pieces
decreases-pieces g l = room_of l.cutter
