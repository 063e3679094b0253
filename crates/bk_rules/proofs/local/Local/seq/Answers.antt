use Rattle.std.proofs.Common.{Option, ap, arith}
use Rattle.bk_rules.specs.declared.account.Account.{Account}
use Rattle.bk_rules.specs.Rule.{seq_of}
use Rattle.bk_rules.proofs.Sides.{read_there, read_absent}
use Rattle.bk_rules.proofs.local.Local.seq.Goals as goal

pub returns-then-self-k : goal.returns-then-self-k
returns-then-self-k c = ap (λ (o : Option Account). seq_of o) (read_there c.self.inside.there c.self.inside.balance c.self.inside.seq _ c.self.view_is (omega arith) (omega arith) (omega arith) c.args.k c.requires c.if-self-k.true)

pub returns-else-self-k : goal.returns-else-self-k
returns-else-self-k c = ap (λ (o : Option Account). seq_of o) (read_absent c.self.inside.there c.self.inside.balance c.self.inside.seq _ c.self.view_is (omega arith) (omega arith) (omega arith) c.args.k c.requires c.if-self-k.false)
