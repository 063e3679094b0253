use Rattle.std.proofs.Common.{sym, arith}
use Rattle.bk_tx.proofs.Pairs.{count_is, read_is}
use Rattle.bk_tx.proofs.declared.Declarations.get.Goals as goal

pub returns : goal.returns
returns c =
    let count = count_is c.self.inside.count c.self.inside.ids c.self.inside.writable _ (omega arith) (omega arith) c.self.invariant c.self.view_is in
    sym (read_is c.self.inside.count c.self.inside.ids c.self.inside.writable _ c.args.index (omega arith) (omega arith) c.self.view_is (omega arith))
