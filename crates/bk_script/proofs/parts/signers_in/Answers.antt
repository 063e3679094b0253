use Rattle.std.proofs.Common.{◌∙◌, ◌<◌, ◌++◌, ◌∷◌, [], nat_lt, ap, sym, arith, get_or}
use Rattle.std.proofs.lemmas.Bool.{lt-ltb, le-ltb}
use Rattle.std.proofs.lemmas.List.{take_more, take_all}
use Rattle.std.proofs.lemmas.List.Elements.{All-push}
use Rattle.bk_script.proofs.Sorted.{all_more, all_bad, all_end, low_signer, high_signer}
use Rattle.bk_script.proofs.parts.signers_in.Goals as goal

pub loop-number-preserved : goal.loop-number-preserved
loop-number-preserved c = record {
  same = c.in_ok-push.ensures.items ∙ ap (λ xs. xs ++ get_or c.args.numbers.now c.loop-number.number-index 0 ∷ []) c.loop-number.invariant.same ∙ sym (take_more c.args.numbers.now c.loop-number.number-index 0 c.loop-number-test.true);
  low = rw c.in_ok-push.ensures.items (All-push (λ n. n < 128) c.loop-number.signers.items (get_or c.args.numbers.now c.loop-number.number-index 0) c.loop-number.invariant.low (omega (arith, c.if-number-gt127.false)));
  test = all_more (λ n. nat_lt n 128) c.args.numbers.now c.loop-number.number-index c.loop-number-test.true (lt-ltb (get_or c.args.numbers.now c.loop-number.number-index 0) 128 (omega (arith, c.if-number-gt127.false))) c.loop-number.invariant.test;
}

pub returns-then-number-gt127-clause-members : goal.returns-then-number-gt127-clause-members
returns-then-number-gt127-clause-members c =
    high_signer c.args.numbers.now (all_bad (λ n. nat_lt n 128) c.args.numbers.now c.loop-number.number-index c.loop-number-test.true (le-ltb (get_or c.args.numbers.now c.loop-number.number-index 0) 128 (omega (arith, c.if-number-gt127.true))) c.loop-number.invariant.test)

pub returns-clause-members : goal.returns-clause-members
returns-clause-members c =
    rw (c.loop-number.invariant.same ∙ take_all c.loop-number.number-index c.args.numbers.now c.loop-number-test.false)
    (low_signer c.args.numbers.now (all_end (λ n. nat_lt n 128) c.args.numbers.now c.loop-number.number-index c.loop-number-test.false c.loop-number.invariant.test))
