use Rattle.bk_rounds.proofs.Bits.{has_with}
use Rattle.bk_rounds.proofs.members.Members.with.Goals as goal

pub returns : goal.returns
returns c = rw (← c.self.view_is) (λ y. has_with c.self.inside.bits c.args.x y c.requires)
