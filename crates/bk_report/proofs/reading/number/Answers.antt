use Rattle.std.proofs.Common.{rules, subst, sym, ◌∙◌}
use Rattle.std.specs.Str.{IsUtf8}
use Rattle.std.proofs.lemmas.Str.{IsUtf8-from_ascii}
use Rattle.std.proofs.lemmas.Fmt.{parse-decimal, IsAscii-decimal}
use Rattle.bk_report.proofs.reading.number.Goals as goal

pub returns-in_default-clause-found : goal.returns-in_default-clause-found
returns-in_default-clause-found c = λ n fits e. absurd (c.in_default.ensures.cases.0 (subst IsUtf8 (sym e) (IsUtf8-from_ascii _ (IsAscii-decimal n fits))))

pub returns-in-Ok-parse-clause-found : goal.returns-in-Ok-parse-clause-found
returns-in-Ok-parse-clause-found c = λ n fits e. let read = parse-decimal 64 n _ _ fits fits (c.in-Ok.ensures.cases.0 ∙ e) c.parse.ensures.value.0 in search rules

pub returns-in-Err-clause-found : goal.returns-in-Err-clause-found
returns-in-Err-clause-found c = λ n fits e. absurd (cc (parse-decimal 64 n _ _ fits fits (c.in-Ok.ensures.cases.0 ∙ e) c.parse.ensures.value.0))
