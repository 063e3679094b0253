use Rattle.std.proofs.Common.{◌*◌, take}
use Rattle.bk_report.specs.Lines.{text_of}
use Rattle.bk_report.specs.Report.{tx_lines}
use Rattle.bk_report.specs.Pages.{Puts, desk}
use Rattle.bk_report.proofs.groups.put_receipts.Given as goal

abbrev pub invariant-loop-index : goal.invariant-loop-index
invariant-loop-index g l = Puts (desk l.initial.page (g.K.Sink.state l.initial.sink)) (desk l.page (g.K.Sink.state l.sink)) (96 * l.index) (text_of (take l.index (tx_lines 0 l.receipts)))
