use Rattle.std.proofs.Common.{ℕ, eqb, ap, arith}
use Rattle.bk_tx.proofs.Pairs.{count_is}
use Rattle.bk_tx.proofs.declared.Declarations.is_empty.Goals as goal

pub returns : goal.returns
returns c = ap (λ (n : ℕ). eqb n 0) (count_is c.self.inside.count c.self.inside.ids c.self.inside.writable _ (omega arith) (omega arith) c.self.invariant c.self.view_is)
