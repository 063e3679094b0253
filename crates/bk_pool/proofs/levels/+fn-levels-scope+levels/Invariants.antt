use Prim.Native.Nat.{◌+◌, ◌*◌}
use Rattle.bk_pool.proofs.levels.+fn-levels-scope+levels.Given as goal

abbrev pub decreases-levels : goal.decreases-levels
decreases-levels g l = 2 * l.ends.len

abbrev pub decreases-scope : goal.decreases-scope
decreases-scope g l = 2 * l.ends.len + 1
