use Rattle.std.proofs.Common.{map}
use Rattle.std.proofs.lemmas.Result.{err_from_is_err_and}
use Rattle.bk_script.specs.Words.{number_of, numbers_of}
use Rattle.bk_script.proofs.Each.{lent_more, lent_bad, lent_all}
use Rattle.bk_script.proofs.words.numbers.Goals as goal

pub returns-in_err-number : goal.returns-in_err-number
returns-in_err-number c =
    let p = err_from_is_err_and c.from_residual.result c.from_residual.ensures.1 in
    rw (p.1, p.2) (lent_bad number_of c.args.words.now c.loop-word.word-index _ c.loop-word.numbers.items c.in_err-number.field-0.0 (numbers_of (map (λ w. w.now) c.args.words.now)) c.loop-word-test.true c.in_err-number.ensures c.loop-word.invariant)

pub loop-word-preserved : goal.loop-word-preserved
loop-word-preserved c =
    lent_more number_of c.args.words.now c.loop-word.word-index _ c.loop-word.numbers.items c.push.new.self.items c.in_ok-number.field-0 (numbers_of (map (λ w. w.now) c.args.words.now)) c.loop-word-test.true c.in_ok-number.ensures c.in_ok-push.ensures.items c.loop-word.invariant

pub returns : goal.returns
returns c = lent_all number_of c.args.words.now c.loop-word.word-index c.loop-word.numbers.items (numbers_of (map (λ w. w.now) c.args.words.now)) c.loop-word-test.false c.loop-word.invariant
