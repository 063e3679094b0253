use Rattle.std.proofs.Common.{arith}
use Rattle.bk_rules.proofs.Sides.{read_there, read_absent}
use Rattle.bk_rules.proofs.local.Local.account.Goals as goal

pub returns-then-self-k : goal.returns-then-self-k
returns-then-self-k c = read_there c.self.inside.there c.self.inside.balance c.self.inside.seq _ c.self.view_is (omega arith) (omega arith) (omega arith) c.args.k c.requires c.if-self-k.true

pub returns-else-self-k : goal.returns-else-self-k
returns-else-self-k c = read_absent c.self.inside.there c.self.inside.balance c.self.inside.seq _ c.self.view_is (omega arith) (omega arith) (omega arith) c.args.k c.requires c.if-self-k.false
