use Rattle.std.proofs.Common.{length}
use Rattle.bk_cli.proofs.shown.+push_shown.Given as goal

abbrev pub decreases-push_shown : goal.decreases-push_shown
decreases-push_shown g l = length l.bytes.now
