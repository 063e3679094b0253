-- The command goes by its word.
use Rattle.std.proofs.Common.{◌≡◌, IfSome, subst}
use Rattle.clap.specs.Words.{Text, with_subcommand}
use Rattle.bk_cli.specs.Commands.{line_named}
use Rattle.bk_cli.proofs.commands.with_command.Goals as goal

pub returns : goal.returns
returns c = λ a h. subst (λ (name : Text). IfSome c.subcommand.result (λ it. it ≡ with_subcommand a (line_named name c.args.verb).top))
    c.word-name.ensures (c.subcommand.ensures _ _ h c.line_named.ensures)
