use Rattle.std.proofs.lemmas.Result.{err_from_is_err_and}
use Rattle.bk_results.specs.declared.fault.Fault.TheVariants as fault
use Rattle.bk_answer.specs.Answers.{IsTakenOf}
use Rattle.bk_answer.proofs.Texts.{text_out, text_stops}
use Rattle.bk_follow.proofs.Frames.{frames_answer, frames_answer_not, taken_now}
use Rattle.bk_follow.proofs.framing.take_and_answer.Goals as goal

pub text-requires-clause-taken : goal.text-requires-clause-taken
text-requires-clause-taken g c = taken_now c.args.follower.now c.in_ok-intake.intake.now c.in_ok-intake.ensures.come c.in_ok-intake.ensures.taken

pub returns-in_err-push_all-clause-fault : goal.returns-in_err-push_all-clause-fault
returns-in_err-push_all-clause-fault g c =
    let p = err_from_is_err_and c.from_residual-in_err-push_all.result c.from_residual-in_err-push_all.ensures.1 in
    let text = g.A.FrameAnswer.text c.args.asked.now in
    rw (p.1, p.2) (frames_answer_not text (fault.Write c.in_err-push_all.field-0.0.written) c.args.follower.now c.in_ok-intake.intake.now (g.K.Sink.state c.args.sink.now) (g.K.Sink.state c.push_all.new.sink) c.in_ok-intake.ensures.taken
    (text_stops (IsTakenOf c.in_ok-intake.intake.now) text c.in_ok-end.end c.in_ok-end.text.items c.in_ok-end.ensures (g.K.Sink.state c.args.sink.now) (g.K.Sink.state c.push_all.new.sink) c.in_err-push_all.field-0.0 (rw (← c.deref.ensures.value) c.in_err-push_all.ensures.fault))).0

pub returns-clause-out : goal.returns-clause-out
returns-clause-out g c =
    frames_answer (g.A.FrameAnswer.text c.args.asked.now) c.args.follower.now c.in_ok-intake.intake.now c.in_ok-end.end (g.K.Sink.state c.args.sink.now) (g.K.Sink.state c.push_all.new.sink) c.in_ok-intake.ensures.taken
    (text_out (IsTakenOf c.in_ok-intake.intake.now) (g.A.FrameAnswer.text c.args.asked.now) c.in_ok-end.end c.in_ok-end.text.items c.in_ok-end.ensures (g.K.Sink.state c.args.sink.now) (g.K.Sink.state c.push_all.new.sink) (rw (← c.deref.ensures.value) c.in_ok-push_all.ensures.ok))
