use Rattle.std.proofs.Common.{◌<◌, ◌≤◌, length}
use Rattle.bk_frames.specs.declared.pulling.TheConstants.{PIECE}
use Rattle.bk_frames.specs.Device.{Ends}
use Rattle.bk_frames.specs.Reading.{room_of}
use Rattle.bk_results.specs.Devices.{devices}
use Rattle.bk_listing.specs.private.Listed.{HasShown}
use Rattle.bk_listing.proofs.listing.list_all.Given as goal

abbrev pub invariant-pieces : goal.invariant-pieces
invariant-pieces g l = record {
  shown : HasShown (devices (g.S.Source.state l.initial.source) (g.K.Sink.state l.initial.sink)) (devices (g.S.Source.state l.source) (g.K.Sink.state l.sink)) l.reader l.lister;
  goes_on : Ends 0 (g.S.Source.state l.initial.source) (g.S.Source.state l.source);
  some : 0 < length l.piece;
  few : length l.piece ≤ PIECE;
}

abbrev pub decreases-pieces : goal.decreases-pieces
decreases-pieces g l = room_of l.reader.cutter
