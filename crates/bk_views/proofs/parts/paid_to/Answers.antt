use Rattle.bk_views.proofs.PartsPlayed.{paid_all, paid_step}
use Rattle.bk_views.proofs.parts.paid_to.Goals as goal

pub loop-payment-preserved : goal.loop-payment-preserved
loop-payment-preserved c = paid_step c.args.id c.args.payments.now c.loop-payment.payment-index _ c.loop-payment.paid c.amount_to.result c.saturating_add-paid.result c.loop-payment-test.true c.loop-payment.invariant c.amount_to.ensures c.saturating_add-paid.ensures

pub returns : goal.returns
returns c = paid_all c.args.id c.args.payments.now c.loop-payment.payment-index c.loop-payment.paid c.loop-payment-test.false c.loop-payment.invariant
