use Rattle.std.proofs.Common.{Err, refl}
use Rattle.std.proofs.lemmas.Result.{err_from_is_err_and}
use Rattle.bk_follow.proofs.Following.{broken_by, no_fault, settled_now}
use Rattle.bk_follow.proofs.RunAnswers.{finish_again, finish_unclosed, finish_unwritten, finishes}
use Rattle.bk_follow.proofs.follower.Follower.finish.Goals as goal

pub returns-in_err-close-clause-fault : goal.returns-in_err-close-clause-fault
returns-in_err-close-clause-fault g c =
    let p = err_from_is_err_and c.from_residual.result c.from_residual.ensures.1 in
    rw (p.1, p.2) (λ works. finish_unclosed c.in_err-close.field-0.0 c.args.self.now c.close.new.self (g.K.Sink.state c.args.sink.now) (c.in_err-close.ensures.fault works))

pub returns-in_err-close-clause-again : goal.returns-in_err-close-clause-again
returns-in_err-close-clause-again g c =
    let p = err_from_is_err_and c.from_residual.result c.from_residual.ensures.1 in
    rw (p.1, p.2) (finish_again c.args.self.now.fault c.in_err-close.field-0.0 (Err c.in_err-close.field-0.0) (Err c.in_err-close.field-0.0) c.args.self.now c.close.new.self (g.K.Sink.state c.args.sink.now) refl refl c.in_err-close.ensures.again)

pub write_closed-requires-clause-closed : goal.write_closed-requires-clause-closed
write_closed-requires-clause-closed g c κs within = settled_now c.args.self.now c.close.new.self c.in_ok-close.ensures.closed

pub returns-in-Ok-clause-report : goal.returns-in-Ok-clause-report
returns-in-Ok-clause-report g c = finishes c.args.self.now c.close.new.self (g.K.Sink.state c.args.sink.now) (g.K.Sink.state c.write_closed.new.sink) c.in-Ok.status c.in_ok-close.ensures.closed c.in-Ok.ensures.out

pub returns-in-Ok-clause-again : goal.returns-in-Ok-clause-again
returns-in-Ok-clause-again g c = no_fault c.args.self.now.fault _ c.in_ok-close.ensures.works.0

pub returns-in-Err-clause-again : goal.returns-in-Err-clause-again
returns-in-Err-clause-again g c = no_fault c.args.self.now.fault _ c.in_ok-close.ensures.works.0

pub returns-in-Err-clause-fault : goal.returns-in-Err-clause-fault
returns-in-Err-clause-fault g c = λ works.
    rw c.latch.ensures.same
    (finish_unwritten c.in-Err.fault c.args.self.now c.close.new.self _ (g.K.Sink.state c.args.sink.now) (g.K.Sink.state c.write_closed.new.sink) c.in_ok-close.ensures.closed c.in-Err.ensures.fault
    (broken_by c.latch.new.standing c.in-Err.fault c.latch.new.gathered.cutter c.latch.new.gathered.opened.committee c.latch.new.gathered.opened.book c.latch.ensures.emptied c.latch.ensures.standing))
