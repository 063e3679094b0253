use Rattle.std.proofs.Common.{length}
use Rattle.bk_digest.proofs.tree.+push_path.Given as goal

abbrev pub decreases-push_path : goal.decreases-push_path
decreases-push_path g l = length l.leaves.now
