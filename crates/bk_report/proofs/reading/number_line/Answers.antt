use Rattle.std.proofs.Common.{◌∷◌, ◌++◌}
use Rattle.std.specs.Prelude.{decimal}
use Rattle.bk_report.proofs.ProofReading.{decimal_free-10}
use Rattle.bk_report.proofs.reading.number_line.Goals as goal

pub returns-in_err-word-clause-found : goal.returns-in_err-word-clause-found
returns-in_err-word-clause-found c = λ n rest fits e.
    let behind = c.in_ok-after.ensures.found ((decimal n) ++ 10 ∷ rest) e in
    absurd (c.in_err-word.ensures.found (decimal n) rest (decimal_free-10 n fits) behind)

pub returns-in_err-number-clause-found : goal.returns-in_err-number-clause-found
returns-in_err-number-clause-found c = λ n rest fits e.
    let behind = c.in_ok-after.ensures.found ((decimal n) ++ 10 ∷ rest) e in
    let there = c.in_ok-word.ensures.found (decimal n) rest (decimal_free-10 n fits) behind in
    absurd (cc (c.in_err-number.ensures.found n fits there.0))

pub returns-clause-found : goal.returns-clause-found
returns-clause-found c = λ n rest fits e.
    let behind = c.in_ok-after.ensures.found ((decimal n) ++ 10 ∷ rest) e in
    let there = c.in_ok-word.ensures.found (decimal n) rest (decimal_free-10 n fits) behind in
    let same = c.in_ok-number.ensures.found n fits there.0 in
    (cc, there.1)
