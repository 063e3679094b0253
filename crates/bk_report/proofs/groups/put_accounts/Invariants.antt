use Rattle.std.proofs.Common.{◌*◌, take}
use Rattle.bk_report.specs.Lines.{text_of}
use Rattle.bk_report.specs.Report.{account_lines}
use Rattle.bk_report.specs.Pages.{Puts, desk}
use Rattle.bk_report.proofs.groups.put_accounts.Given as goal

abbrev pub invariant-loop-row : goal.invariant-loop-row
invariant-loop-row g l = Puts (desk l.initial.page (g.K.Sink.state l.initial.sink)) (desk l.page (g.K.Sink.state l.sink)) (96 * l.row-index) (text_of (take l.row-index (account_lines l.rows)))
