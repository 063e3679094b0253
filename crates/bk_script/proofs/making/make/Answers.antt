use Rattle.std.proofs.lemmas.Result.{err_from_is_err_and}
use Rattle.bk_script.proofs.WholeTexts.{source_fails, sink_fails, all_written}
use Rattle.bk_script.proofs.making.make.Goals as goal

pub returns-in_err-feed-clause-fault : goal.returns-in_err-feed-clause-fault
returns-in_err-feed-clause-fault g c =
    let p = err_from_is_err_and c.from_residual-in_err-feed.result c.from_residual-in_err-feed.ensures.1 in
    rw (p.1, p.2) (source_fails (g.S.Source.state c.args.source.now) (g.S.Source.state c.feed_from.new.source) (g.K.Sink.state c.args.sink.now) c.in_err-feed.field-0.0 c.in_err-feed.ensures.fault)

pub returns-in_err-push_all-clause-fault : goal.returns-in_err-push_all-clause-fault
returns-in_err-push_all-clause-fault g c =
    let p = err_from_is_err_and c.from_residual-in_err-push_all.result c.from_residual-in_err-push_all.ensures.1 in
    rw (p.1, p.2) (sink_fails (g.S.Source.state c.args.source.now) (g.S.Source.state c.feed_from.new.source) (g.K.Sink.state c.args.sink.now) (g.K.Sink.state c.push_all.new.sink) c.in_ok-feed.feed.items c.in_err-push_all.field-0.0 c.in_ok-feed.ensures.feed (rw (← c.deref.ensures.value) c.in_err-push_all.ensures.fault))

pub returns-clause-feed : goal.returns-clause-feed
returns-clause-feed g c =
    all_written (g.S.Source.state c.args.source.now) (g.S.Source.state c.feed_from.new.source) (g.K.Sink.state c.args.sink.now) (g.K.Sink.state c.push_all.new.sink) c.in_ok-feed.feed.items c.in_ok-feed.ensures.feed (rw (← c.deref.ensures.value) c.in_ok-push_all.ensures.ok.1)
