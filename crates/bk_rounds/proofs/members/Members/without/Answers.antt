use Rattle.std.proofs.Common.{rules}
use Rattle.bk_rounds.proofs.Bits.{has_without}
use Rattle.bk_rounds.proofs.members.Members.without.Goals as goal

pub returns : goal.returns
returns c = rw (← c.self.view_is, ← c.other.view_is) (λ y. has_without c.self.inside.bits c.other.inside.bits y (search rules) (search rules))
