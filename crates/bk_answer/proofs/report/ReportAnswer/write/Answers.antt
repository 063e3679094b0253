use Rattle.std.proofs.Common.{refl}
use Rattle.std.proofs.lemmas.Result.{err_from_is_err_and}
use Rattle.bk_answer.specs.Answers.{IsMadeOf}
use Rattle.bk_answer.specs.RunReport.{IsReportOf, reach_of}
use Rattle.bk_answer.specs.Values.{closed_value}
use Rattle.bk_answer.proofs.Reports.{report_is}
use Rattle.bk_answer.proofs.Texts.{text_out, text_stops}
use Rattle.bk_answer.proofs.report.ReportAnswer.write.Goals as goal

pub returns-in_err-write_shown-clause-fault : goal.returns-in_err-write_shown-clause-fault
returns-in_err-write_shown-clause-fault g c =
    let p = err_from_is_err_and c.from_residual-in_err-write_shown.result c.from_residual-in_err-write_shown.ensures.1 in
    let made = closed_value c.args.closed.now in
    let shown = c.in_ok-shown.shown in
    rw (p.1, p.2) (text_stops (IsMadeOf made) IsReportOf (reach_of made.order.taken.ordered.payloads.missing) _ (report_is made shown c.in_ok-shown.ensures _ refl) _ _ c.in_err-write_shown.field-0.0 c.in_err-write_shown.ensures)

pub returns-clause-out : goal.returns-clause-out
returns-clause-out g c =
    let made = closed_value c.args.closed.now in
    let shown = c.in_ok-shown.shown in
    text_out (IsMadeOf made) IsReportOf c.reach.result _ (report_is made shown c.in_ok-shown.ensures c.reach.result c.reach.ensures) (g.K.Sink.state c.args.sink.now) (g.K.Sink.state c.write_shown.new.sink) c.in_ok-write_shown.ensures
