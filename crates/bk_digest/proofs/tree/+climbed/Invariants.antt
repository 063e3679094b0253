use Rattle.std.proofs.Common.{length}
use Rattle.bk_digest.proofs.tree.+climbed.Given as goal

abbrev pub decreases-climbed : goal.decreases-climbed
decreases-climbed l = length l.path.now
