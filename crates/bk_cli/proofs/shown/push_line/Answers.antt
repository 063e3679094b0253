-- The parts of the line in turn.
use Rattle.std.proofs.Common.{◌++◌, ap, codes, refl}
use Rattle.std.proofs.lemmas.Result.{err_from_is_err_and}
use Rattle.bk_cli.specs.Files.{shown}
use Rattle.bk_cli.proofs.ReportLemmas.{stops_before, stops_first, stops_only, then_stops, then_writes}
use Rattle.bk_cli.proofs.shown.push_line.Goals as goal

pub returns-in_err-push_all : goal.returns-in_err-push_all
returns-in_err-push_all g c =
    let p = err_from_is_err_and c.from_residual.result c.from_residual.ensures.1 in
    rw p.1 (stops_first c.in_err-push_all.field-0.0 _ (codes "bkreplay: ") (shown c.args.name.now ++ c.args.end.now)
    (g.E.Sink.state c.args.err.now) (g.E.Sink.state c.push_all.new.sink) refl c.in_err-push_all.ensures.fault)

pub returns-in_err-push_shown : goal.returns-in_err-push_shown
returns-in_err-push_shown g c =
    let p = err_from_is_err_and c.from_residual-in_err-push_shown.result c.from_residual-in_err-push_shown.ensures.1 in
    let rest = c.args.end.now in
    rw p.1 (then_stops _ (codes "bkreplay: ") (shown c.args.name.now ++ rest) (g.E.Sink.state c.args.err.now) (g.E.Sink.state c.push_all.new.sink) (g.E.Sink.state c.push_shown.new.err) refl c.in_ok-push_all.ensures.ok
    (stops_before (shown c.args.name.now) rest (g.E.Sink.state c.push_all.new.sink) (g.E.Sink.state c.push_shown.new.err) (rw c.as_bytes.ensures.value at c.in_err-push_shown.ensures)))

pub returns-in_err-push_all-2 : goal.returns-in_err-push_all-2
returns-in_err-push_all-2 g c =
    let p = err_from_is_err_and c.from_residual-in_err-push_all-2.result c.from_residual-in_err-push_all-2.ensures.1 in
    let rest = c.args.end.now in
    rw p.1 (then_stops _ (codes "bkreplay: ") (shown c.args.name.now ++ rest) (g.E.Sink.state c.args.err.now) (g.E.Sink.state c.push_all.new.sink) (g.E.Sink.state c.push_all-2.new.sink) refl c.in_ok-push_all.ensures.ok
    (then_stops _ (shown c.args.name.now) rest (g.E.Sink.state c.push_all.new.sink) (g.E.Sink.state c.push_shown.new.err) (g.E.Sink.state c.push_all-2.new.sink) (ap shown c.as_bytes.ensures.value) c.in_ok-push_shown.ensures
    (stops_only c.in_err-push_all-2.field-0.0 _ rest (g.E.Sink.state c.push_shown.new.err) (g.E.Sink.state c.push_all-2.new.sink) refl c.in_err-push_all-2.ensures.fault)))

pub returns : goal.returns
returns g c =
    let rest = c.args.end.now in
    then_writes _ (codes "bkreplay: ") (shown c.args.name.now ++ rest) (g.E.Sink.state c.args.err.now) (g.E.Sink.state c.push_all.new.sink) (g.E.Sink.state c.push_all-2.new.sink) refl c.in_ok-push_all.ensures.ok
    (then_writes _ (shown c.args.name.now) rest (g.E.Sink.state c.push_all.new.sink) (g.E.Sink.state c.push_shown.new.err) (g.E.Sink.state c.push_all-2.new.sink) (ap shown c.as_bytes.ensures.value) c.in_ok-push_shown.ensures
    c.in_ok-push_all-2.ensures.ok)
