use Rattle.std.proofs.Common.{fold, true}
use Rattle.bk_tx.specs.Access.{receivers_in}
use Rattle.bk_script.specs.Transactions.{declare}
use Rattle.bk_script.proofs.Declaring.{paid_more, paid_all}
use Rattle.bk_script.proofs.transactions.declare_receivers.Goals as goal

pub loop-payment-preserved : goal.loop-payment-preserved
loop-payment-preserved c =
    paid_more c.args.payments.now c.loop-payment.payment-index c.loop-payment.declared.items c.declare_one.new.declared.items (fold (λ all to. declare to true all) c.args.declared.now.items (receivers_in c.args.payments.now)) _ c.loop-payment-test.true c.in_ok-declare_one.ensures c.loop-payment.invariant

pub returns : goal.returns
returns c = paid_all c.args.payments.now c.loop-payment.payment-index c.loop-payment.declared.items _ c.loop-payment-test.false c.loop-payment.invariant
