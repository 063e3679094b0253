use Rattle.std.proofs.Common.{length}
use Rattle.bk_digest.proofs.tree.+subtree_root.Given as goal

abbrev pub decreases-subtree_root : goal.decreases-subtree_root
decreases-subtree_root g l = length l.leaves.now
