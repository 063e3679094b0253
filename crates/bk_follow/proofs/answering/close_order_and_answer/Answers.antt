use Rattle.std.proofs.lemmas.Result.{err_from_is_err_and}
use Rattle.bk_follow.proofs.RunAnswers.{ordered_now}
use Rattle.bk_follow.proofs.RunAnswers.{close_order_fails, order_write_fails, order_answers}
use Rattle.bk_follow.proofs.answering.close_order_and_answer.Goals as goal

pub returns-in_err-close_order-clause-fault : goal.returns-in_err-close_order-clause-fault
returns-in_err-close_order-clause-fault g c =
    let p = err_from_is_err_and c.from_residual.result c.from_residual.ensures.1 in
    rw (p.1, p.2) (close_order_fails (g.A.OrderAnswer.text c.args.asked.now) c.in_err-close_order.field-0.0 c.args.follower.now c.close_order.new.self _ (c.in_err-close_order.ensures.fault c.requires.works))

pub write_ordered-requires-clause-ordered : goal.write_ordered-requires-clause-ordered
write_ordered-requires-clause-ordered g c = ordered_now c.args.follower.now c.close_order.new.self c.in_ok-close_order.ensures.closed

pub returns-in_err-end-clause-fault : goal.returns-in_err-end-clause-fault
returns-in_err-end-clause-fault g c =
    let p = err_from_is_err_and c.from_residual-in_err-end.result c.from_residual-in_err-end.ensures.1 in
    rw (p.1, p.2) (order_write_fails (g.A.OrderAnswer.text c.args.asked.now) c.in_err-end.field-0.0 c.args.follower.now c.close_order.new.self _ _ c.in_ok-close_order.ensures.closed c.in_err-end.ensures.fault)

pub returns-clause-out : goal.returns-clause-out
returns-clause-out g c = order_answers (g.A.OrderAnswer.text c.args.asked.now) c.args.follower.now c.close_order.new.self (g.K.Sink.state c.args.sink.now) (g.K.Sink.state c.write_ordered.new.sink) c.in_ok-end.end c.in_ok-close_order.ensures.closed c.in_ok-end.ensures.out
