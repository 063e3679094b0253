use Rattle.std.proofs.lemmas.Result.{err_from_is_err_and}
use Rattle.bk_follow.proofs.Following.{settled_now}
use Rattle.bk_follow.proofs.RunAnswers.{close_fails, write_fails, follower_answers}
use Rattle.bk_follow.proofs.answering.close_and_answer.Goals as goal

pub returns-in_err-close-clause-fault : goal.returns-in_err-close-clause-fault
returns-in_err-close-clause-fault g c =
    let p = err_from_is_err_and c.from_residual.result c.from_residual.ensures.1 in
    rw (p.1, p.2) (close_fails (g.A.Answer.text c.args.asked.now) c.in_err-close.field-0.0 c.args.follower.now c.close.new.self _ (c.in_err-close.ensures.fault c.requires.works))

pub write_closed-requires-clause-closed : goal.write_closed-requires-clause-closed
write_closed-requires-clause-closed g c κs within = settled_now c.args.follower.now c.close.new.self c.in_ok-close.ensures.closed

pub returns-in_err-end-clause-fault : goal.returns-in_err-end-clause-fault
returns-in_err-end-clause-fault g c =
    let p = err_from_is_err_and c.from_residual-in_err-end.result c.from_residual-in_err-end.ensures.1 in
    rw (p.1, p.2) (write_fails (g.A.Answer.text c.args.asked.now) c.in_err-end.field-0.0 c.args.follower.now c.close.new.self _ _ c.in_ok-close.ensures.closed c.in_err-end.ensures.fault)

pub returns-clause-out : goal.returns-clause-out
returns-clause-out g c = follower_answers (g.A.Answer.text c.args.asked.now) c.args.follower.now c.close.new.self (g.K.Sink.state c.args.sink.now) (g.K.Sink.state c.write_closed.new.sink) c.in_ok-end.end c.in_ok-close.ensures.closed c.in_ok-end.ensures.out
