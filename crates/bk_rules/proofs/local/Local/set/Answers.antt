use Rattle.std.proofs.Common.{arith, rules}
use Rattle.bk_rules.proofs.Sides.{set_here, eight}
use Rattle.bk_rules.proofs.local.Local.set.Goals as goal

pub returns-clause-after : goal.returns-clause-after
returns-clause-after c = set_here c.self.inside.there c.self.inside.balance c.self.inside.seq _ c.self.view_is (omega arith) (omega arith) (omega arith) c.args.k c.requires c.args.account c.is_some.result c.unwrap_or-numbers.result (search rules) (search rules)

pub returns-clause-wide : goal.returns-clause-wide
returns-clause-wide c = eight c.self.inside.there c.self.inside.balance c.self.inside.seq _ c.self.view_is (omega arith) (omega arith) (omega arith)
