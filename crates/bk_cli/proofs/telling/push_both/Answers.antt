-- One line is written, and then the other.
use Rattle.std.proofs.Common.{◌++◌, codes, refl}
use Rattle.std.proofs.lemmas.Result.{err_from_is_err_and}
use Rattle.bk_cli.specs.Files.{shown}
use Rattle.bk_cli.proofs.ReportLemmas.{stops_first, then_stops}
use Rattle.bk_cli.proofs.telling.push_both.Goals as goal

pub returns-in_err-push_all : goal.returns-in_err-push_all
returns-in_err-push_all g c =
    let p = err_from_is_err_and c.from_residual.result c.from_residual.ensures.1 in
    rw p.1 (stops_first c.in_err-push_all.field-0.0 _ c.args.line.now (codes "bkreplay: " ++ (shown c.args.name.now ++ c.args.end.now))
    (g.E.Sink.state c.args.err.now) (g.E.Sink.state c.push_all.new.sink) refl c.in_err-push_all.ensures.fault)

pub returns-in_err-push_line : goal.returns-in_err-push_line
returns-in_err-push_line g c =
    let p = err_from_is_err_and c.from_residual-in_err-push_line.result c.from_residual-in_err-push_line.ensures.1 in
    rw p.1 (then_stops _ c.args.line.now (codes "bkreplay: " ++ (shown c.args.name.now ++ c.args.end.now))
    (g.E.Sink.state c.args.err.now) (g.E.Sink.state c.push_all.new.sink) (g.E.Sink.state c.push_line.new.err) refl c.in_ok-push_all.ensures.ok c.in_err-push_line.ensures)
