-- What holds of the settled words is said of the words.
use Rattle.std.proofs.Common.{◌∙◌, ℕ, List, map, ap, subst, IfErr, IfOk, Bor}
use Rattle.clap.specs.Words.{Text}
use Rattle.bk_cli.specs.CommandLine.{IsLineOf, IsRefusal}
use Rattle.bk_cli.proofs.parsing.parse_line.Goals as goal

pub returns-clause-line : goal.returns-clause-line
returns-clause-line g c = subst (λ (words : List Text). IfOk c.parse_settled.result (IsLineOf words))
    (ap (map (λ (w : Bor (List ℕ)). w.now)) c.as_slice.ensures.value ∙ c.in_ok-words.ensures) c.parse_settled.ensures.line

pub returns-clause-error : goal.returns-clause-error
returns-clause-error g c = subst (λ (words : List Text). IfErr c.parse_settled.result (IsRefusal words))
    (ap (map (λ (w : Bor (List ℕ)). w.now)) c.as_slice.ensures.value ∙ c.in_ok-words.ensures) c.parse_settled.ensures.error
