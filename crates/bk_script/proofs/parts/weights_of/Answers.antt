use Rattle.std.proofs.Common.{◌∙◌, ◌^◌, ◌++◌, ◌∷◌, ◌&&◌, [], nat_lt, ap, sym, arith, get_or}
use Rattle.std.proofs.lemmas.Bool.{lt-ltb, and_from}
use Rattle.std.proofs.lemmas.List.{take_more}
use Rattle.bk_script.proofs.Sorted.{all_more}
use Rattle.bk_script.proofs.parts.weights_of.Goals as goal

pub loop-weight-preserved : goal.loop-weight-preserved
loop-weight-preserved c = record {
  same = c.in_ok-push.ensures.items ∙ ap (λ xs. xs ++ get_or c.args.listed.now c.loop-weight.weight-index 0 ∷ []) c.loop-weight.invariant.same ∙ sym (take_more c.args.listed.now c.loop-weight.weight-index 0 c.loop-weight-test.true);
  test = all_more (λ w. nat_lt 0 w && nat_lt w (2 ^ 32)) c.args.listed.now c.loop-weight.weight-index c.loop-weight-test.true (and_from (nat_lt 0 (get_or c.args.listed.now c.loop-weight.weight-index 0)) (nat_lt (get_or c.args.listed.now c.loop-weight.weight-index 0) (2 ^ 32)) (lt-ltb 0 (get_or c.args.listed.now c.loop-weight.weight-index 0) (omega (arith, c.if-weight-eq0.false))) (lt-ltb (get_or c.args.listed.now c.loop-weight.weight-index 0) (2 ^ 32) (omega (arith, c.if-weight.false)))) c.loop-weight.invariant.test;
}
