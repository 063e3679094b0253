use Rattle.std.proofs.Common.{Option, ap, arith}
use Rattle.bk_rules.specs.declared.account.Account.{Account}
use Rattle.bk_rules.specs.Rule.{balance_of}
use Rattle.bk_rules.proofs.Sides.{read_there, read_absent, eight}
use Rattle.bk_rules.proofs.local.Local.balance.Goals as goal

pub returns-then-self-k-clause-value : goal.returns-then-self-k-clause-value
returns-then-self-k-clause-value c = ap (λ (o : Option Account). balance_of o) (read_there c.self.inside.there c.self.inside.balance c.self.inside.seq _ c.self.view_is (omega arith) (omega arith) (omega arith) c.args.k c.requires c.if-self-k.true)

pub returns-then-self-k-clause-wide : goal.returns-then-self-k-clause-wide
returns-then-self-k-clause-wide c = eight c.self.inside.there c.self.inside.balance c.self.inside.seq _ c.self.view_is (omega arith) (omega arith) (omega arith)

pub returns-else-self-k-clause-value : goal.returns-else-self-k-clause-value
returns-else-self-k-clause-value c = ap (λ (o : Option Account). balance_of o) (read_absent c.self.inside.there c.self.inside.balance c.self.inside.seq _ c.self.view_is (omega arith) (omega arith) (omega arith) c.args.k c.requires c.if-self-k.false)

pub returns-else-self-k-clause-wide : goal.returns-else-self-k-clause-wide
returns-else-self-k-clause-wide c = eight c.self.inside.there c.self.inside.balance c.self.inside.seq _ c.self.view_is (omega arith) (omega arith) (omega arith)
