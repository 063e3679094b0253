use Rattle.std.proofs.Common.{length, ap, arith}
use Rattle.bk_tx.proofs.Bodies.{length-payments}
use Rattle.bk_tx.proofs.body.Body.text_len.Goals as goal

pub returns-in-Split-clause-len : goal.returns-in-Split-clause-len
returns-in-Split-clause-len c = rw c.in-Split.is (omega (arith, ap length c.as_slice.ensures.all, length-payments c.in-Split.payments))
