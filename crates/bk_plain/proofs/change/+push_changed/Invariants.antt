use Rattle.std.proofs.Common.{length}
use Rattle.bk_plain.proofs.change.+push_changed.Given as goal

abbrev pub decreases-push_changed : goal.decreases-push_changed
decreases-push_changed l = length l.rows.now
