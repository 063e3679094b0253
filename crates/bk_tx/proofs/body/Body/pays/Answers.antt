use Rattle.std.proofs.Common.{◌∙◌}
use Rattle.bk_tx.proofs.Bodies.{pays_receiver}
use Rattle.bk_tx.proofs.body.Body.pays.Goals as goal

pub returns-in-Split : goal.returns-in-Split
returns-in-Split c = rw c.in-Split.is (c.pay.ensures ∙ pays_receiver c.in-Split.payments c.args.id)
