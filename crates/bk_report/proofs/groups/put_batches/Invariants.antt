use Rattle.std.proofs.Common.{◌*◌, take}
use Rattle.bk_report.specs.Lines.{text_of}
use Rattle.bk_report.specs.Report.{batch_lines}
use Rattle.bk_report.specs.Pages.{Puts, desk}
use Rattle.bk_report.proofs.groups.put_batches.Given as goal

abbrev pub invariant-loop-index : goal.invariant-loop-index
invariant-loop-index g l = Puts (desk l.initial.page (g.K.Sink.state l.initial.sink)) (desk l.page (g.K.Sink.state l.sink)) (96 * l.index) (text_of (take l.index (batch_lines 0 l.counts)))
