use Rattle.std.proofs.Common.{◌<◌, ◌≤◌, [], length}
use Rattle.bk_frames.specs.declared.pulling.TheConstants.{PIECE}
use Rattle.bk_frames.specs.Device.{Ends}
use Rattle.bk_frames.specs.Reading.{room_of}
use Rattle.bk_follow.specs.Follower.{StaysSettled}
use Rattle.bk_follow.specs.private.Gathering.{HasPulled}
use Rattle.bk_follow.proofs.replaying.pull_opening.Given as goal

abbrev pub invariant-groups : goal.invariant-groups
invariant-groups g l = record {
  pulled : HasPulled (g.S.Source.state l.initial.source) (g.S.Source.state l.source) [] l.gathered;
  goes_on : Ends 0 (g.S.Source.state l.initial.source) (g.S.Source.state l.source);
  stays : StaysSettled l.initial.gathered.opened.book l.gathered.opened.book;
  some : 0 < length l.piece;
  few : length l.piece ≤ PIECE;
}

abbrev pub decreases-groups : goal.decreases-groups
decreases-groups g l = room_of l.gathered.cutter
