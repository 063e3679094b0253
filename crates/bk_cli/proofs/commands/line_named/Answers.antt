-- The arguments are added to the name, and then the options.
use Rattle.std.proofs.Common.{◌≡◌, IfSome, List, subst}
use Rattle.std.specs.List.{fold}
use Rattle.clap.specs.Words.{new_app}
use Rattle.bk_cli.specs.Commands.{with_part}
use Rattle.bk_cli.specs.declared.parts.Part.{Part}
use Rattle.bk_cli.proofs.commands.line_named.Goals as goal

pub returns : goal.returns
returns c = subst
    (λ (q : List Part × List Part). IfSome c.with_parts-2.result (λ a. a ≡ fold with_part (fold with_part (new_app c.args.name.now) q.0) q.1))
    (λ j. (c.parts.ensures j, c.flags.ensures j))
    (c.with_parts-2.ensures _ (c.with_parts.ensures _ c.new-named.ensures))
