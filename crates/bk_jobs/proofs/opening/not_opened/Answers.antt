-- The file that could not be opened is reported with the reason of its error.
use Rattle.std.proofs.Common.{subst}
use Rattle.bk_cli.specs.FaultLines.{Reports}
use Rattle.bk_cli.specs.Unopened.{told_unopened}
use Rattle.bk_cli.specs.declared.unopened.Unopened.{Unopened}
use Rattle.bk_jobs.proofs.opening.not_opened.Goals as goal

pub returns-clause-told : goal.returns-clause-told
returns-clause-told g c =
    subst (λ (why : Unopened). Reports (told_unopened c.args.line.now.notes.verbose c.args.missing.now.path.now why) (g.E.Sink.state c.args.err.now) (g.E.Sink.state c.tell_unopened.new.err))
    c.reason_of-why.ensures c.tell_unopened.ensures
