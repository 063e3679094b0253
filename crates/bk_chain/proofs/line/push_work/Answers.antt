use Rattle.bk_chain.proofs.Texts.{two_parts}
use Rattle.bk_chain.proofs.line.push_work.Goals as goal

pub returns : goal.returns
returns c = two_parts _ _ _ _ _ c.in_ok-write.ensures.bytes c.in_ok-push_end.ensures
