use Rattle.std.proofs.Common.{◌+◌, ◌*◌, length}
use Rattle.bk_digest.proofs.tree.+pieces.Given as goal

abbrev pub decreases-join+arg2 : goal.decreases-join+arg2
decreases-join+arg2 g l = 2 * length l.left.now + 1

abbrev pub decreases-join+arg3 : goal.decreases-join+arg3
decreases-join+arg3 g l = 2 * length l.right.now + 1

abbrev pub decreases-root_by_pieces : goal.decreases-root_by_pieces
decreases-root_by_pieces g l = 2 * length l.leaves.now
