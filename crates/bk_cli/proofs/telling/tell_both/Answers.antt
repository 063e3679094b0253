-- Whether both lines are written or not.
use Rattle.bk_cli.proofs.ReportLemmas.{pushed_reports}
use Rattle.bk_cli.proofs.telling.tell_both.Goals as goal

pub returns : goal.returns
returns g c = pushed_reports c.push_both.result _ (g.E.Sink.state c.args.err.now) (g.E.Sink.state c.push_both.new.err) c.push_both.ensures
