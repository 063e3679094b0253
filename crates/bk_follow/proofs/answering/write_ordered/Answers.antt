use Rattle.bk_answer.specs.Answers.{IsOrderMadeOf}
use Rattle.bk_answer.specs.Values.{order_value}
use Rattle.bk_answer.proofs.Texts.{text_out}
use Rattle.bk_follow.proofs.RunAnswers.{order_writes}
use Rattle.bk_follow.proofs.answering.write_ordered.Goals as goal

pub returns-clause-out : goal.returns-clause-out
returns-clause-out g c =
    let o = order_value c.in-Some.order in
    order_writes (g.A.OrderAnswer.text c.args.asked.now) c.args.follower.now.book c.in-Some.ensures.0 o (g.K.Sink.state c.args.sink.now) (g.K.Sink.state c.push_all.new.sink) c.in_ok-end.end c.in-Some.ensures.1 c.in-Some.ensures.2
    (text_out (IsOrderMadeOf o) (g.A.OrderAnswer.text c.args.asked.now) c.in_ok-end.end c.in_ok-end.text.items c.in_ok-end.ensures (g.K.Sink.state c.args.sink.now) (g.K.Sink.state c.push_all.new.sink) (rw (← c.deref.ensures.value) c.in_ok-push_all.ensures.ok))
