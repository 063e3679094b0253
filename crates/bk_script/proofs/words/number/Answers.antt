use Rattle.std.proofs.Common.{arith, ◌∙◌, sym}
use Rattle.std.specs.Str.Parse.{digits_value}
use Rattle.bk_script.specs.Words.{number_of, is_numeral}
use Rattle.bk_script.proofs.Digits.{too_large, refused, counted}
use Rattle.bk_script.proofs.words.number.Goals as goal

pub returns-then-value-digit : goal.returns-then-value-digit
unfolding number_of
returns-then-value-digit c =
    let numeral = sym c.is_numeral_word.ensures ∙ c.if-not-is_numeral_word.false in
    let large = too_large c.args.word.now c.loop-digit.digit-index c.loop-digit.value c.from-digit.result c.loop-digit-test.true numeral c.from-digit.ensures (omega (arith, c.if-value-digit.true, c.from-digit.type_inv)) c.loop-digit.invariant in
    sym (refused (is_numeral c.args.word.now) (digits_value 10 c.args.word.now) _ _ large)

pub loop-digit-preserved : goal.loop-digit-preserved
loop-digit-preserved c =
    let numeral = sym c.is_numeral_word.ensures ∙ c.if-not-is_numeral_word.false in
    counted c.args.word.now c.loop-digit.digit-index c.loop-digit.value c.from-digit.result c.loop-digit-test.true numeral c.from-digit.ensures c.loop-digit.invariant
