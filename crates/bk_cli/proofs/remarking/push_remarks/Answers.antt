-- Of the first feed, then of the second, and then whose tag is wrong.
use Rattle.std.proofs.Common.{◌++◌, List, ℕ, refl}
use Rattle.std.proofs.lemmas.Result.{err_from_is_err_and}
use Rattle.bk_cli.specs.Explanations.{gap_note, tag_note}
use Rattle.bk_cli.specs.Files.{name_of}
use Rattle.bk_cli.specs.declared.about.FaultSubject.TheVariants as about
use Rattle.bk_cli.proofs.ReportLemmas.{stops_before, then_stops}
use Rattle.bk_cli.proofs.remarking.push_remarks.Goals as goal

pub returns-in_err-push_gap : goal.returns-in_err-push_gap
returns-in_err-push_gap g c =
    let p = err_from_is_err_and c.from_residual.result c.from_residual.ensures.1 in
    let name : List ℕ = name_of c.args.job.now about.First in
    rw p.1 (stops_before (gap_note name c.args.remarks.now.first) (gap_note (name_of c.args.job.now about.Second) c.args.remarks.now.second ++ tag_note name c.args.remarks.now.forged)
    (g.E.Sink.state c.args.err.now) (g.E.Sink.state c.push_gap.new.err) (rw c.name.ensures at c.in_err-push_gap.ensures))

pub returns-in_err-push_gap-2 : goal.returns-in_err-push_gap-2
returns-in_err-push_gap-2 g c =
    let p = err_from_is_err_and c.from_residual-in_err-push_gap-2.result c.from_residual-in_err-push_gap-2.ensures.1 in
    let name : List ℕ = name_of c.args.job.now about.First in
    let second : List ℕ = gap_note (name_of c.args.job.now about.Second) c.args.remarks.now.second in
    let last : List ℕ = tag_note name c.args.remarks.now.forged in
    rw p.1 (then_stops _ (gap_note name c.args.remarks.now.first) (second ++ last)
    (g.E.Sink.state c.args.err.now) (g.E.Sink.state c.push_gap.new.err) (g.E.Sink.state c.push_gap-2.new.err) refl (rw c.name.ensures at c.in_ok-push_gap.ensures)
    (stops_before second last (g.E.Sink.state c.push_gap.new.err) (g.E.Sink.state c.push_gap-2.new.err) (rw c.name-2.ensures at c.in_err-push_gap-2.ensures)))

pub returns-in_err-push_tag : goal.returns-in_err-push_tag
returns-in_err-push_tag g c =
    let p = err_from_is_err_and c.from_residual-in_err-push_tag.result c.from_residual-in_err-push_tag.ensures.1 in
    let name : List ℕ = name_of c.args.job.now about.First in
    let second : List ℕ = gap_note (name_of c.args.job.now about.Second) c.args.remarks.now.second in
    let last : List ℕ = tag_note name c.args.remarks.now.forged in
    rw p.1 (then_stops _ (gap_note name c.args.remarks.now.first) (second ++ last)
    (g.E.Sink.state c.args.err.now) (g.E.Sink.state c.push_gap.new.err) (g.E.Sink.state c.push_tag.new.err) refl (rw c.name.ensures at c.in_ok-push_gap.ensures)
    (then_stops _ second last (g.E.Sink.state c.push_gap.new.err) (g.E.Sink.state c.push_gap-2.new.err) (g.E.Sink.state c.push_tag.new.err) refl (rw c.name-2.ensures at c.in_ok-push_gap-2.ensures)
    (rw c.name-3.ensures at c.in_err-push_tag.ensures)))
