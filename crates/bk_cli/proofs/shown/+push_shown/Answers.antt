-- The first bytes, and then the others.
use Rattle.std.proofs.Common.{◌≡◌, ◌++◌, ◌∙◌, ap}
use Rattle.std.proofs.lemmas.List.{map-append}
use Rattle.std.proofs.lemmas.Result.{err_from_is_err_and}
use Rattle.bk_cli.specs.Files.{shown, shown_byte}
use Rattle.bk_cli.proofs.ReportLemmas.{stops_first, then_stops}
use Rattle.bk_cli.proofs.shown.+push_shown.Goals as goal

pub returns-in_err-push_all : goal.returns-in_err-push_all
returns-in_err-push_all g t c =
    let p = err_from_is_err_and c.from_residual.result c.from_residual.ensures.1 in
    let whole : shown c.args.bytes.now ≡ shown c.split_at.result.0.now ++ shown c.split_at.result.1.now = ap shown c.split_at.ensures.by_index.0 ∙ map-append shown_byte c.split_at.result.0.now c.split_at.result.1.now in
    rw (p.1, whole) (stops_first c.in_err-push_all.field-0.0 _ (shown c.split_at.result.0.now) (shown c.split_at.result.1.now)
    (g.E.Sink.state c.args.err.now) (g.E.Sink.state c.push_all.new.sink) (c.as_slice.ensures.value ∙ c.shown.ensures) c.in_err-push_all.ensures.fault)

pub returns-in_err-push_shown : goal.returns-in_err-push_shown
returns-in_err-push_shown g t c =
    let p = err_from_is_err_and c.from_residual-in_err-push_shown.result c.from_residual-in_err-push_shown.ensures.1 in
    let whole : shown c.args.bytes.now ≡ shown c.split_at.result.0.now ++ shown c.split_at.result.1.now = ap shown c.split_at.ensures.by_index.0 ∙ map-append shown_byte c.split_at.result.0.now c.split_at.result.1.now in
    rw (p.1, whole) (then_stops _ (shown c.split_at.result.0.now) (shown c.split_at.result.1.now)
    (g.E.Sink.state c.args.err.now) (g.E.Sink.state c.push_all.new.sink) (g.E.Sink.state c.push_shown.new.err) (c.as_slice.ensures.value ∙ c.shown.ensures) c.in_ok-push_all.ensures.ok c.in_err-push_shown.ensures)
