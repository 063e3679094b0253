use Rattle.std.proofs.lemmas.Result.{IfOk-weaker}
use Rattle.bk_answer.specs.Values.{order_value}
use Rattle.bk_follow.proofs.Flawed.{made_of, some_book}
use Rattle.bk_follow.proofs.follower.Follower.flaw_if.Goals as goal

pub unreachable-unreachable : goal.unreachable-unreachable
unreachable-unreachable c = some_book c.args.self.now c.requires.0 c.requires.1 c.in_default.ensures

pub flaw_if-requires : goal.flaw_if-requires
flaw_if-requires c = (c.requires.0, made_of c.args.self.now c.in-Some.ensures.0 (order_value c.in-Some.order) c.requires.0 c.in-Some.ensures.1 c.in-Some.ensures.2 c.requires.1)

pub returns : goal.returns
returns c =
    IfOk-weaker c.flaw_if.result _ _
    (λ found w feed h. w feed (made_of c.args.self.now c.in-Some.ensures.0 (order_value c.in-Some.order) feed c.in-Some.ensures.1 c.in-Some.ensures.2 h))
    c.flaw_if.ensures
