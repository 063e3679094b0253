use Rattle.std.proofs.Common.{rules, arith}
use Rattle.bk_rounds.proofs.Bits.{cleared, has_least, cleared_less}
use Rattle.bk_rounds.proofs.members.Members.pop.Goals as goal

pub returns-clause-some : goal.returns-clause-some
returns-clause-some c = rw (← c.self.view_is) (has_least c.self.inside.bits (omega arith) (search rules))

pub returns-clause-rest : goal.returns-clause-rest
returns-clause-rest c = rw (← c.self.view_is)
    (let least = has_least c.self.inside.bits (omega arith) (search rules) in λ y. cleared c.self.inside.bits _ (search rules) least.0 least.1 y)

pub returns-clause-fewer : goal.returns-clause-fewer
returns-clause-fewer c = rw (← c.self.view_is)
    (let least = has_least c.self.inside.bits (omega arith) (search rules) in cleared_less c.self.inside.bits _ least.0 least.1)
