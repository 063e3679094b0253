use Rattle.std.proofs.lemmas.Result.{err_from_is_err_and}
use Rattle.bk_frames.specs.Cutting.{frames_in}
use Rattle.bk_listing.proofs.ShownSoFar.{push_more, untouched}
use Rattle.bk_listing.proofs.lister.Lister.list.Goals as goal

pub returns-in_err-lines-clause-fault : goal.returns-in_err-lines-clause-fault
returns-in_err-lines-clause-fault g c =
    let p = err_from_is_err_and c.from_residual.result c.from_residual.ensures.1 in
    rw (p.1, p.2) (untouched (g.K.Sink.state c.args.sink.now))

pub returns-in_err-push-clause-fault : goal.returns-in_err-push-clause-fault
returns-in_err-push-clause-fault g c =
    let p = err_from_is_err_and c.from_residual-in_err-push.result c.from_residual-in_err-push.ensures.1 in
    rw (p.1, p.2)
    (push_more c.in_err-push.field-0.0 c.args.version (frames_in c.args.frames.now) c.args.self.now c.lines_of.new.self _ _ (g.K.Sink.state c.args.sink.now) (g.K.Sink.state c.push.new.sink) c.in_ok-lines.ensures.listed c.in_ok-lines.ensures.written c.deref.ensures.value c.in_err-push.ensures.fault)
