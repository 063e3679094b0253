use Rattle.std.proofs.Common.{◌*◌, take}
use Rattle.bk_report.specs.Lines.{text_of}
use Rattle.bk_report.specs.RunLines.{reject_lines}
use Rattle.bk_report.specs.Pages.{Puts, desk}
use Rattle.bk_report.proofs.groups.put_rejects.Given as goal

abbrev pub invariant-loop-reject : goal.invariant-loop-reject
invariant-loop-reject g l = Puts (desk l.initial.page (g.K.Sink.state l.initial.sink)) (desk l.page (g.K.Sink.state l.sink)) (96 * l.reject-index) (text_of (take l.reject-index (reject_lines l.rejected)))
