use Rattle.bk_base.specs.Feed.{feed_of}
use Rattle.bk_compare.proofs.FeedEnds.{ended_agree, left_order, right_order}
use Rattle.bk_compare.proofs.agreeing.found_of.Goals as goal

pub flaw_if-requires : goal.flaw_if-requires
flaw_if-requires c =
    let (bytes, more, x, y) = c.requires.ended in
    (feed_of x.version x.frames, left_order c.args.one.now c.args.other.now bytes more x y c.args.agreed c.requires.agree)

pub flaw_if-requires-2 : goal.flaw_if-requires-2
flaw_if-requires-2 c =
    let (bytes, more, x, y) = c.requires.ended in
    (feed_of y.version y.frames, right_order c.args.one.now c.args.other.now bytes more x y c.args.agreed c.requires.agree)

pub returns-clause-found : goal.returns-clause-found
returns-clause-found c = λ bytes more x y.
    ended_agree c.args.one.now c.args.other.now bytes more x y c.args.strict
    (record { agreed = c.args.agreed; first = c.missing-first.result; second = c.missing-second.result; first_flaw = c.in_ok-first_flaw.first_flaw; second_flaw = c.in_ok-second_flaw.second_flaw })
    c.missing-first.ensures c.missing-second.ensures c.requires.agree
    (c.in_ok-first_flaw.ensures (feed_of x.version x.frames) (left_order c.args.one.now c.args.other.now bytes more x y c.args.agreed c.requires.agree))
    (c.in_ok-second_flaw.ensures (feed_of y.version y.frames) (right_order c.args.one.now c.args.other.now bytes more x y c.args.agreed c.requires.agree))
