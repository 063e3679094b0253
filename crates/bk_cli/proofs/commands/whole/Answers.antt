-- Each command is added to those before it.
use Rattle.std.proofs.Common.{◌≡◌, IfSome, sym, subst, List}
use Rattle.std.proofs.lemmas.List.{take_all}
use Rattle.std.proofs.lemmas.List.Sums.{fold_more}
use Rattle.std.specs.List.{fold}
use Rattle.clap.specs.Words.{App}
use Rattle.bk_cli.specs.Commands.{program, with_command}
use Rattle.bk_cli.specs.declared.verb.TheConstants.{ALL}
use Rattle.bk_cli.specs.declared.verb.Verb.{Verb}
use Rattle.bk_cli.proofs.commands.whole.Goals as goal

pub loop-verb-preserved : goal.loop-verb-preserved
loop-verb-preserved c = subst (λ (b : App). IfSome c.with_command-line.result (λ it. it ≡ b))
    (sym (fold_more with_command program ALL c.loop-verb.verb-index _ c.loop-verb-test.true))
    (c.with_command-line.ensures _ c.loop-verb.invariant)

pub returns : goal.returns
returns c = subst (λ (vs : List Verb). IfSome c.loop-verb.line (λ it. it ≡ fold with_command program vs))
    (take_all c.loop-verb.verb-index ALL c.loop-verb-test.false) c.loop-verb.invariant
