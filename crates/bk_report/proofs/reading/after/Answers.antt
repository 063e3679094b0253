use Rattle.std.proofs.Common.{arith, ap, length, length-append}
use Rattle.bk_report.proofs.ProofReading.{after_word}
use Rattle.bk_report.proofs.reading.after.Goals as goal

pub returns-then-text-word-clause-found : goal.returns-then-text-word-clause-found
returns-then-text-word-clause-found c = λ rest e. absurd (omega (arith, ap length e, length-append c.args.word.now rest))

pub returns-clause-found : goal.returns-clause-found
returns-clause-found c = λ rest e. after_word c.args.text.now c.args.word.now rest e
