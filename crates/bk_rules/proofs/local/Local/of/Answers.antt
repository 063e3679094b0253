use Rattle.std.proofs.Common.{arith}
use Rattle.bk_rules.proofs.Sides.{same_views}
use Rattle.bk_rules.proofs.local.Local.of.Goals as goal

pub returns : goal.returns
returns c = same_views c.loop-k.local c.args.view.now (omega arith) (λ k low. c.loop-k.invariant.so_far k (omega arith))
