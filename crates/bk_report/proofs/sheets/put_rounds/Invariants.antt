use Rattle.std.proofs.Common.{◌*◌, take}
use Rattle.bk_report.specs.Lines.{text_of}
use Rattle.bk_report.specs.RunLines.{rows_lines}
use Rattle.bk_report.specs.Pages.{Puts, desk}
use Rattle.bk_report.specs.Sheets.{IsRound}
use Rattle.bk_report.proofs.sheets.put_rounds.Given as goal

abbrev pub invariant-loop-round : goal.invariant-loop-round
invariant-loop-round g l = record {
  put : Puts (desk l.initial.page (g.K.Sink.state l.initial.sink)) (desk l.page (g.K.Sink.state l.sink)) (96 * 65536 * l.round) (text_of (take (l.round * 65536) (rows_lines l.receipts l.rows)));
  made : IsRound (rows_lines l.receipts l.rows) (l.round * 65536) l.front;
}
