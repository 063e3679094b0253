use Rattle.bk_order.proofs.Agreeing.{parts_agree}
use Rattle.bk_order.proofs.laws.parts_agree.Goals as goal

pub returns : goal.returns
returns c = parts_agree
