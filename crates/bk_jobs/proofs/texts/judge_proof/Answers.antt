-- What was read is the source's, and the verdict on it is written.
use Rattle.std.proofs.lemmas.Result.{err_from_is_err_and}
use Rattle.bk_jobs.proofs.VerdictLemmas.{verdict_is_out, verdict_stops, not_read, no_memory}
use Rattle.bk_jobs.proofs.texts.judge_proof.Goals as goal

pub returns-in_err-text-clause-fault : goal.returns-in_err-text-clause-fault
returns-in_err-text-clause-fault g c =
    let p = err_from_is_err_and c.from_residual.result c.from_residual.ensures.1 in
    rw (p.1, p.2) (not_read c.args.root.now c.args.account (g.S.Source.state c.args.source.now) (g.S.Source.state c.read_text.new.source) (g.O.Sink.state c.args.out.now) c.in_err-text.field-0.0 c.in_err-text.ensures.fault)

pub returns-in_err-good-clause-fault : goal.returns-in_err-good-clause-fault
returns-in_err-good-clause-fault g c =
    let p = err_from_is_err_and c.from_residual-in_err-good.result c.from_residual-in_err-good.ensures.1 in
    rw (p.1, p.2) (no_memory c.args.root.now c.args.account c.in_ok-text.text.items (g.S.Source.state c.args.source.now) (g.S.Source.state c.read_text.new.source) (g.O.Sink.state c.args.out.now) c.in_ok-text.ensures.text)

pub returns-in_err-push_all-clause-fault : goal.returns-in_err-push_all-clause-fault
returns-in_err-push_all-clause-fault g c =
    let p = err_from_is_err_and c.from_residual-in_err-push_all.result c.from_residual-in_err-push_all.ensures.1 in
    rw (p.1, p.2) (verdict_stops c.args.root.now c.args.account c.in_ok-text.text.items c.in_ok-good.good (g.S.Source.state c.args.source.now) (g.S.Source.state c.read_text.new.source) (g.O.Sink.state c.args.out.now) (g.O.Sink.state c.push_all.new.sink) c.in_err-push_all.field-0.0
    c.in_ok-text.ensures.text (rw (← c.deref.ensures.value) c.in_ok-good.ensures) (rw (← c.verdict_text.ensures) c.in_err-push_all.ensures.fault))

pub returns-clause-verdict : goal.returns-clause-verdict
returns-clause-verdict g c =
    verdict_is_out c.args.root.now c.args.account c.in_ok-text.text.items c.in_ok-good.good (g.S.Source.state c.args.source.now) (g.S.Source.state c.read_text.new.source) (g.O.Sink.state c.args.out.now) (g.O.Sink.state c.push_all.new.sink)
    c.in_ok-text.ensures.text (rw (← c.deref.ensures.value) c.in_ok-good.ensures) (rw (← c.verdict_text.ensures) c.in_ok-push_all.ensures.ok)
