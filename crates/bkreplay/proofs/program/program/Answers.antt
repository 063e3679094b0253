-- The status is that of the end.
use Rattle.std.proofs.Common.{◌∙◌}
use Rattle.bkreplay.proofs.program.program.Goals as goal

pub returns : goal.returns
returns g c = record { ran = (c.answer_words-end.result, c.from.ensures ∙ c.number.ensures, c.answer_words-end.ensures.ran) }
