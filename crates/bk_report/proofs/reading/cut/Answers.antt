use Rattle.std.proofs.Common.{sym, ◌∙◌, ap, drop}
use Rattle.bk_report.proofs.ProofReading.{some_end, first_end, cut_there, rest_of}
use Rattle.bk_report.proofs.reading.cut.Goals as goal

pub returns-in_err-place_of-clause-found : goal.returns-in_err-place_of-clause-found
returns-in_err-place_of-clause-found c = λ word rest none e. absurd (some_end c.args.end word rest c.args.text.now e (sym c.place_of.ensures ∙ c.in_err-place_of.was))

pub returns-clause-found : goal.returns-clause-found
returns-clause-found c = λ word rest none e.
    let at = first_end c.args.end word rest c.args.text.now c.in_ok-place_of.field-0 e none (sym c.place_of.ensures ∙ c.in_ok-place_of.was) in
    let there = cut_there c.args.end word rest c.args.text.now c.in_ok-place_of.field-0 e at in
    (c.split_at.ensures.front ∙ there.0, rest_of c.split_at.result.1.now 1 ∙ ap (drop 1) c.split_at.ensures.back ∙ there.1)
