use Rattle.std.proofs.Common.{arith}
use Rattle.bk_tx.proofs.Pairs.{ids_are}
use Rattle.bk_tx.proofs.declared.Declarations.ids.Goals as goal

pub returns-clause-all : goal.returns-clause-all
returns-clause-all c = ids_are c.self.inside.count c.self.inside.ids c.self.inside.writable _ (omega arith) (omega arith) c.self.view_is
