use Rattle.std.proofs.lemmas.Result.{IfOk-weaker, IfErr-weaker}
use Rattle.bk_answer.specs.Values.{closed_value}
use Rattle.bk_follow.proofs.RunAnswers.{book_writes, book_writes_not, made_of, not_executed}
use Rattle.bk_follow.proofs.answering.write_closed.Goals as goal

pub unreachable-unreachable : goal.unreachable-unreachable
unreachable-unreachable g c = not_executed c.args.follower.now.book c.requires.closed c.in_default.ensures

pub write-requires-clause-closed : goal.write-requires-clause-closed
write-requires-clause-closed g c = made_of c.args.follower.now.book c.in-Some.ensures.0 (closed_value c.in-Some.closed) c.requires.closed c.in-Some.ensures.1 c.in-Some.ensures.2

pub returns-clause-out : goal.returns-clause-out
returns-clause-out g c =
    IfOk-weaker c.write.result _ _
    (λ end w. book_writes (g.A.Answer.text c.args.asked.now) c.args.follower.now.book c.in-Some.ensures.0 (closed_value c.in-Some.closed) (g.K.Sink.state c.args.sink.now) (g.K.Sink.state c.write.new.sink) end c.in-Some.ensures.1 c.in-Some.ensures.2 w)
    c.write.ensures.out

pub returns-clause-fault : goal.returns-clause-fault
returns-clause-fault g c =
    IfErr-weaker c.write.result _ _
    (λ f w. book_writes_not (g.A.Answer.text c.args.asked.now) c.args.follower.now.book c.in-Some.ensures.0 (closed_value c.in-Some.closed) _ _ f c.in-Some.ensures.1 c.in-Some.ensures.2 w)
    c.write.ensures.fault
