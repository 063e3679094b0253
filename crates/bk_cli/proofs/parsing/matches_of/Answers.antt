-- The parser's own clause, at the command line that the definition writes.
use Rattle.std.proofs.Common.{ap, map, refl, subst, true, ◌∙◌, ◌≡◌}
use Rattle.std.proofs.lemmas.Result.{IfErr-weaker, IfOk-weaker}
use Rattle.clap.specs.Kinds.{FailsBy}
use Rattle.clap.specs.Words.{App, fault_of, is_simple_and_free, takes}
use Rattle.bk_cli.specs.Commands.{command_line}
use Rattle.bk_cli.proofs.WordLemmas.{named_by_words}
use Rattle.bk_cli.proofs.parsing.matches_of.Goals as goal

-- the parser's clause speaks of commands like this one
is_of_this_form : (a : App) → a ≡ command_line → is_simple_and_free a ≡ true
is_of_this_form a same = ap is_simple_and_free same ∙ refl

pub returns-clause-kinds : goal.returns-clause-kinds
returns-clause-kinds g c =
    subst (λ (a : App). FailsBy (fault_of a (map g.S.AsStr.text c.args.words.now)) c.try_get_matches_from.result) c.in_ok-command.ensures.line
    (c.try_get_matches_from.ensures.kinds (is_of_this_form _ c.in_ok-command.ensures.line))

pub returns-clause-error : goal.returns-clause-error
returns-clause-error g c = IfErr-weaker c.try_get_matches_from.result _ _
    (λ e h taken. h (ap (λ a. takes a (map g.S.AsStr.text c.args.words.now)) c.in_ok-command.ensures.line ∙ taken)) c.try_get_matches_from.ensures.passes

pub returns-clause-found : goal.returns-clause-found
returns-clause-found g c = IfOk-weaker c.try_get_matches_from.result _ _ (λ m h. named_by_words _ _ m c.in_ok-command.ensures.line h) c.try_get_matches_from.ensures.matches
