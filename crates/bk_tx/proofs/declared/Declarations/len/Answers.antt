use Rattle.std.proofs.Common.{arith}
use Rattle.bk_tx.proofs.Pairs.{count_is}
use Rattle.bk_tx.proofs.declared.Declarations.len.Goals as goal

pub returns-clause-len : goal.returns-clause-len
returns-clause-len c = count_is c.self.inside.count c.self.inside.ids c.self.inside.writable _ (omega arith) (omega arith) c.self.invariant c.self.view_is
