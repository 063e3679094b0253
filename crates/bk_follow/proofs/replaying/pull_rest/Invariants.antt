use Rattle.std.proofs.Common.{◌<◌, ◌≤◌, length}
use Rattle.bk_frames.specs.declared.pulling.TheConstants.{PIECE}
use Rattle.bk_frames.specs.Device.{CanBeUsed, Device, Ends}
use Rattle.bk_frames.specs.Reading.{room_of}
use Rattle.bk_follow.specs.private.Ahead.{HasPulledAhead}
use Rattle.bk_follow.specs.Follower.{StaysSettled}
use Rattle.bk_follow.proofs.replaying.pull_rest.Given as goal

abbrev pub invariant-groups : goal.invariant-groups
invariant-groups g l = record {
  pulled : (start : Device) → HasPulledAhead start (g.S.Source.state l.initial.source) l.initial.ahead l.initial.gathered → HasPulledAhead start (g.S.Source.state l.source) l.ahead l.gathered;
  goes_on : Ends 0 (g.S.Source.state l.initial.source) (g.S.Source.state l.source);
  stays : StaysSettled l.initial.gathered.opened.book l.gathered.opened.book;
  sound : CanBeUsed (g.S.Source.state l.source);
  some : 0 < length l.piece;
  few : length l.piece ≤ PIECE;
}

abbrev pub decreases-groups : goal.decreases-groups
decreases-groups g l = room_of l.gathered.cutter
