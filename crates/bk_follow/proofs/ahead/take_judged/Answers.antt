use Rattle.std.proofs.Common.{Option, Some, sym, subst}
use Rattle.bk_order.specs.Ahead.{JudgedValue}
use Rattle.bk_follow.specs.private.Ahead.{CanTakeJudged, TakesJudged}
use Rattle.bk_follow.proofs.JudgedAhead.{judged_room, judged_taken}
use Rattle.bk_follow.proofs.ahead.take_judged.Goals as goal

pub take_judged-requires-clause-room : goal.take_judged-requires-clause-room
take_judged-requires-clause-room c =
    judged_room c.in-Some.judged c.args.opened.now c.in-Some-book.book (subst (λ (o : Option JudgedValue). CanTakeJudged o c.args.opened.now) c.in-Some.is c.requires.come) c.in-Some-book.is

pub returns-clause-takes : goal.returns-clause-takes
returns-clause-takes c =
    subst (λ (o : Option JudgedValue). TakesJudged o c.args.opened.now (record { committee = c.args.opened.now.committee; key = c.args.opened.now.key; book = Some c.take_judged.new.self })) (sym c.in-Some.is)
    (judged_taken c.in-Some.judged c.args.opened.now c.in-Some-book.book c.take_judged.new.self (subst (λ (o : Option JudgedValue). CanTakeJudged o c.args.opened.now) c.in-Some.is c.requires.come) c.in-Some-book.is c.in_ok-take_judged.ensures.committee c.in_ok-take_judged.ensures.taken)
