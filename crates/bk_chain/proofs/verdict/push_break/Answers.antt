use Rattle.bk_chain.proofs.Texts.{two_parts}
use Rattle.bk_chain.proofs.verdict.push_break.Goals as goal

pub returns : goal.returns
returns c = two_parts _ _ _ _ _ c.in_ok-writeln.ensures.bytes c.in_ok-push_reason.ensures
