use Rattle.std.proofs.Common.{ℕ, ◌<◌, ◌≤◌, List, length}
use Rattle.bk_frames.specs.declared.pulling.TheConstants.{PIECE}
use Rattle.bk_frames.specs.Cutting.{frames_in}
use Rattle.bk_frames.specs.Device.{Ends}
use Rattle.bk_frames.specs.Reading.{IsPulled, room_of}
use Rattle.bk_frames.specs.private.Openings.{IsOpening}
use Rattle.bk_frames.proofs.feed.read_in_pieces.Given as goal

abbrev pub invariant-pieces : goal.invariant-pieces
invariant-pieces g l = record {
  pulled : (bytes : List ℕ) × IsPulled (g.S.Source.state l.initial.source) (g.S.Source.state l.source) bytes (frames_in l.frames.items) l.cutter;
  goes_on : Ends 0 (g.S.Source.state l.initial.source) (g.S.Source.state l.source);
  opening : IsOpening (frames_in l.frames.items) l.genesis;
  some : 0 < length l.piece;
  few : length l.piece ≤ PIECE;
}

abbrev pub decreases-pieces : goal.decreases-pieces
decreases-pieces g l = room_of l.cutter
