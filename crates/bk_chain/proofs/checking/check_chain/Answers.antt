use Rattle.std.proofs.Common.{◌∙◌}
use Rattle.std.proofs.lemmas.Result.{err_from_is_err_and}
use Rattle.bk_chain.proofs.Checked.{checked, memory_fails, sink_fails, text_fails, unread_fails}
use Rattle.bk_chain.proofs.checking.check_chain.Goals as goal

pub returns-in_err-text-clause-fault : goal.returns-in_err-text-clause-fault
returns-in_err-text-clause-fault g c =
    let p = err_from_is_err_and c.from_residual-in_err-text.result c.from_residual-in_err-text.ensures.1 in
    rw (p.1, p.2) (unread_fails (g.S.Source.state c.args.source.now) (g.S.Source.state c.text_of.new.source) (g.K.Sink.state c.args.sink.now) c.in_err-text.field-0.0 c.in_err-text.ensures.fault)

pub returns-in_err-verdict-clause-fault : goal.returns-in_err-verdict-clause-fault
returns-in_err-verdict-clause-fault g c =
    let p = err_from_is_err_and c.from_residual-in_err-verdict.result c.from_residual-in_err-verdict.ensures.1 in
    rw (p.1, p.2) (text_fails (g.S.Source.state c.args.source.now) (g.S.Source.state c.text_of.new.source) (g.K.Sink.state c.args.sink.now) c.in_ok-text.text.items c.in_err-verdict.field-0.0 c.in_ok-text.ensures.text (rw (← c.deref.ensures.value) c.in_err-verdict.ensures.fault))

pub returns-in_err-shown-clause-fault : goal.returns-in_err-shown-clause-fault
returns-in_err-shown-clause-fault g c =
    let p = err_from_is_err_and c.from_residual-in_err-shown.result c.from_residual-in_err-shown.ensures.1 in
    rw (p.1, p.2) (memory_fails (g.S.Source.state c.args.source.now) (g.S.Source.state c.text_of.new.source) (g.K.Sink.state c.args.sink.now) c.in_ok-text.text.items c.in_ok-text.ensures.text)

pub returns-in_err-push_all-clause-fault : goal.returns-in_err-push_all-clause-fault
returns-in_err-push_all-clause-fault g c =
    let p = err_from_is_err_and c.from_residual-in_err-push_all.result c.from_residual-in_err-push_all.ensures.1 in
    rw (p.1, p.2) (sink_fails (g.S.Source.state c.args.source.now) (g.S.Source.state c.text_of.new.source) (g.K.Sink.state c.args.sink.now) (g.K.Sink.state c.push_all.new.sink) c.in_ok-text.text.items _ c.in_ok-verdict.verdict c.in_err-push_all.field-0.0 c.in_ok-text.ensures.text (rw (← c.deref.ensures.value) c.in_ok-verdict.ensures.verdict) (c.as_bytes.ensures.value ∙ c.in_ok-shown.ensures) c.in_err-push_all.ensures.fault)

pub returns-clause-verdict : goal.returns-clause-verdict
returns-clause-verdict g c = checked (g.S.Source.state c.args.source.now) (g.S.Source.state c.text_of.new.source) (g.K.Sink.state c.args.sink.now) (g.K.Sink.state c.push_all.new.sink) c.in_ok-text.text.items _ c.in_ok-verdict.verdict c.end.result c.in_ok-text.ensures.text (rw (← c.deref.ensures.value) c.in_ok-verdict.ensures.verdict) (c.as_bytes.ensures.value ∙ c.in_ok-shown.ensures) c.in_ok-push_all.ensures.ok c.end.ensures
