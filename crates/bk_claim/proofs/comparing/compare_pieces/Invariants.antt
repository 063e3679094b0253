use Rattle.std.proofs.Common.{◌-◌, ◌<◌, ◌≤◌, length, take}
use Rattle.bk_frames.specs.Device.{Ends, Gives, Works}
use Rattle.bk_claim.proofs.comparing.compare_pieces.Given as goal

abbrev pub invariant-pieces : goal.invariant-pieces
invariant-pieces g l = record {
  works : Works (g.S.Source.state l.fn.claimed) (g.S.Source.state l.claimed);
  some : 0 < length l.piece;
  inside : l.at ≤ length l.right;
  same : Gives (g.S.Source.state l.fn.claimed) (g.S.Source.state l.claimed) (take l.at l.right);
  goes_on : Ends 0 (g.S.Source.state l.fn.claimed) (g.S.Source.state l.claimed);
}

abbrev pub decreases-pieces : goal.decreases-pieces
decreases-pieces g l = length l.right - l.at
