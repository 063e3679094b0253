-- The shape of the whole is known, whatever became of it.
use Rattle.bk_cli.proofs.commands.command.Goals as goal

pub returns-clause-line : goal.returns-clause-line
returns-clause-line c = c.into_command.ensures.line _ c.whole.ensures
