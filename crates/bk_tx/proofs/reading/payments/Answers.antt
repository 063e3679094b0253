use Rattle.std.proofs.Common.{◌∷◌, [], length, ap, length-append, arith}
use Rattle.bk_base.specs.Numbers.{list_at}
use Rattle.bk_tx.specs.Reading.{payment_at}
use Rattle.bk_base.proofs.Lists.{list_goes_on, list_ends, list_done}
use Rattle.bk_tx.proofs.reading.payments.Goals as goal

pub push-requires : goal.push-requires
push-requires c = omega (arith, c.loop.invariant.passed, c.loop-test.true, c.requires)

pub returns-in_err-entry : goal.returns-in_err-entry
returns-in_err-entry c = rw c.from_residual.ensures (list_ends payment_at c.loop.read c.args.count c.loop.counter c.loop.fields (list_at payment_at c.args.count c.args.fields.now) c.loop-test.true c.in_err-entry.ensures c.loop.invariant.read)

pub loop-preserved : goal.loop-preserved
loop-preserved c = record {
  passed = omega (arith, ap length c.push.ensures, length-append c.loop.read (c.in_ok-entry.entry ∷ []), c.loop.invariant.passed);
  read = rw c.push.ensures (list_goes_on payment_at c.loop.read c.args.count c.loop.counter c.loop.fields c.in_ok-entry.entry c.payment.new.fields (list_at payment_at c.args.count c.args.fields.now) c.loop-test.true c.in_ok-entry.ensures c.loop.invariant.read);
}

pub returns : goal.returns
returns c = list_done payment_at c.loop.read c.args.count c.loop.counter c.loop.fields (list_at payment_at c.args.count c.args.fields.now) c.loop-test.false c.loop.invariant.read
