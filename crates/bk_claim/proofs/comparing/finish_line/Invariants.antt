use Rattle.std.proofs.Common.{◌-◌, ◌<◌, ◌≤◌, length}
use Rattle.bk_frames.specs.Device.{Ends, Works}
use Rattle.bk_frames.specs.Pulling.{Gave}
use Rattle.bk_claim.proofs.Findings.{Led}
use Rattle.bk_claim.proofs.comparing.finish_line.Given as goal

abbrev pub invariant-pieces : goal.invariant-pieces
invariant-pieces g l = record {
  works : Works (g.S.Source.state l.fn.claimed) (g.S.Source.state l.claimed);
  some : 0 < length l.piece;
  short : length l.line.items ≤ 200;
  given : Gave (g.S.Source.state l.fn.claimed) (g.S.Source.state l.claimed) (Led l.fn.line.items l.line.items);
  goes_on : Ends 0 (g.S.Source.state l.fn.claimed) (g.S.Source.state l.claimed);
}

abbrev pub decreases-pieces : goal.decreases-pieces
decreases-pieces g l = 200 - length l.line.items
