use Rattle.std.proofs.Common.{◌∙◌, arith}
use Rattle.bk_report.specs.Report.{tx_lines}
use Rattle.bk_report.proofs.LineGroups.{line_of_receipt}
use Rattle.bk_report.proofs.Putting.{line_put, lines_put, puts_nothing}
use Rattle.bk_report.proofs.ReportLines.{length-tx_lines}
use Rattle.bk_report.proofs.groups.put_receipts.Goals as goal

pub loop-index-init : goal.loop-index-init
loop-index-init g c = puts_nothing _ c.requires.ready

pub put-requires : goal.put-requires
put-requires g c = c.loop-index.invariant.ready

pub loop-index-preserved : goal.loop-index-preserved
loop-index-preserved g c = line_put _ (tx_lines 0 c.args.receipts.now) c.loop-index.index _ (line_of_receipt c.args.receipts.now c.loop-index.index _ c.receipt-status.result c.loop-index-test.true (c.receipt-status.ensures ∙ c.index-receipts-index.is)) c.loop-index.invariant c.put.ensures (omega arith)

pub returns : goal.returns
returns g c = lines_put _ (tx_lines 0 c.args.receipts.now) c.loop-index.index (omega (arith, length-tx_lines 0 c.args.receipts.now)) c.loop-index.invariant (omega arith)
