use Rattle.std.proofs.Common.{true}
use Rattle.std.proofs.lemmas.Result.{IfOk-weaker, IfErr-weaker, err_from_is_err_and}
use Rattle.bk_follow.proofs.RunAnswers.{call_answers, call_fails, call_read_fails}
use Rattle.bk_follow.proofs.answering.answer_by_ledger.Goals as goal

pub returns-in_err-follower-clause-fault : goal.returns-in_err-follower-clause-fault
returns-in_err-follower-clause-fault g c =
    let p = err_from_is_err_and c.from_residual.result c.from_residual.ensures.1 in
    rw (p.1, p.2) (call_read_fails (g.A.Answer.text c.args.asked.now) c.in_err-follower.field-0.0 true (g.S.Source.state c.args.source.now) (g.S.Source.state c.read.new.source) (g.K.Sink.state c.args.sink.now) c.in_err-follower.ensures.fault)

pub returns-clause-answer : goal.returns-clause-answer
returns-clause-answer g c =
    IfOk-weaker c.close_and_answer-end.result _ _
    (λ end out. call_answers (g.A.Answer.text c.args.asked.now) (g.S.Source.state c.args.source.now) (g.S.Source.state c.read.new.source) (g.K.Sink.state c.args.sink.now) (g.K.Sink.state c.close_and_answer-end.new.sink) c.in_ok-follower.follower end c.in_ok-follower.ensures.works.0 c.in_ok-follower.ensures.come out)
    c.close_and_answer-end.ensures.out

pub returns-clause-fault : goal.returns-clause-fault
returns-clause-fault g c =
    IfErr-weaker c.close_and_answer-end.result _ _
    (λ f out. call_fails (g.A.Answer.text c.args.asked.now) f true (g.S.Source.state c.args.source.now) (g.S.Source.state c.read.new.source) (g.K.Sink.state c.args.sink.now) (g.K.Sink.state c.close_and_answer-end.new.sink) c.in_ok-follower.follower c.in_ok-follower.ensures.works.0 c.in_ok-follower.ensures.come out)
    c.close_and_answer-end.ensures.fault
