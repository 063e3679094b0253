use Rattle.std.proofs.Common.{Some, sym, ap, ◌∙◌, arith}
use Rattle.bk_report.specs.Report.{batch_lines}
use Rattle.bk_report.proofs.LineGroups.{line_of_batch}
use Rattle.bk_report.proofs.Putting.{line_put, lines_put, puts_nothing}
use Rattle.bk_report.proofs.ReportLines.{length-batch_lines}
use Rattle.bk_report.proofs.groups.put_batches.Goals as goal

pub loop-index-init : goal.loop-index-init
loop-index-init g c = puts_nothing _ c.requires.ready

pub put-requires : goal.put-requires
put-requires g c = c.loop-index.invariant.ready

pub loop-index-preserved : goal.loop-index-preserved
loop-index-preserved g c = line_put _ (batch_lines 0 c.args.counts.now) c.loop-index.index c.batch_line.result (line_of_batch c.args.counts.now c.loop-index.index _ c.loop-index-test.true ∙ sym (ap Some c.batch_line.ensures)) c.loop-index.invariant c.put.ensures (omega arith)

pub returns : goal.returns
returns g c = lines_put _ (batch_lines 0 c.args.counts.now) c.loop-index.index (omega (arith, length-batch_lines 0 c.args.counts.now)) c.loop-index.invariant (omega arith)
