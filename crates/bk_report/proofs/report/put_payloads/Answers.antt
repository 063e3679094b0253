use Rattle.std.specs.Option.{option_copied}
use Rattle.bk_report.specs.Report.{batch_lines}
use Rattle.bk_report.specs.RunLines.{missing_lines}
use Rattle.bk_report.proofs.Putting.{groups_put}
use Rattle.bk_report.proofs.report.put_payloads.Goals as goal

pub put_missing-requires : goal.put_missing-requires
put_missing-requires g c = c.put_batches.ensures.ready

pub returns : goal.returns
returns g c = groups_put (batch_lines 0 c.args.counts.now) (missing_lines (option_copied c.args.missing)) c.put_batches.ensures c.put_missing.ensures
