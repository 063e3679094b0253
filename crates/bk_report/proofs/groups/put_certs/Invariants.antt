use Rattle.std.proofs.Common.{◌*◌, take}
use Rattle.bk_report.specs.Lines.{text_of}
use Rattle.bk_report.specs.RunLines.{cert_lines}
use Rattle.bk_report.specs.Pages.{Puts, desk}
use Rattle.bk_report.proofs.groups.put_certs.Given as goal

abbrev pub invariant-loop-place : goal.invariant-loop-place
invariant-loop-place g l = Puts (desk l.initial.page (g.K.Sink.state l.initial.sink)) (desk l.page (g.K.Sink.state l.sink)) (96 * l.place-index) (text_of (take l.place-index (cert_lines l.order)))
