use Rattle.std.proofs.Common.{◌≡◌, ◌/◌, ◌∙◌, arith, refl, ap, take, length, length-set}
use Rattle.bk_script.proofs.Written.{payment_more, payments_all}
use Rattle.bk_script.proofs.transactions.payments_in.Goals as goal

pub loop-i-preserved : goal.loop-i-preserved
loop-i-preserved c = record {
  six = length-set _ _ _ ∙ c.loop-i.invariant.six;
  read = payment_more c.args.numbers.now c.loop-i.read c.loop-i.i _ (omega (arith, c.loop-i-test.true)) (omega (arith, c.loop-i-test.true, c.requires, c.loop-i.invariant.six)) refl c.loop-i.invariant.read;
}

pub returns : goal.returns
returns c =
    let k : length c.args.numbers.now / 2 ≡ c.loop-i.i = omega (arith, c.loop-i-test.false, c.loop-i.auto.i-end) in
    let made = rw c.unwrap.ensures at c.new.ensures.list in
    made ∙ ap (λ n. take n c.loop-i.read) k ∙ payments_all c.args.numbers.now c.loop-i.read c.loop-i.i (omega (arith, k)) c.loop-i.invariant.read
