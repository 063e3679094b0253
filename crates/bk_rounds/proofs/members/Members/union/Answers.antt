use Rattle.bk_rounds.proofs.Bits.{has_union}
use Rattle.bk_rounds.proofs.members.Members.union.Goals as goal

pub returns : goal.returns
returns c = rw (← c.self.view_is, ← c.other.view_is) (λ y. has_union c.self.inside.bits c.other.inside.bits y)
