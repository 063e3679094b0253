use Rattle.bk_commit.proofs.Levels.{gathered_more, gathered_all}
use Rattle.bk_commit.proofs.history.next_level.Goals as goal

pub loop-y-preserved : goal.loop-y-preserved
loop-y-preserved c = gathered_more c.args.rounds.now.sizes c.args.rounds.now.held c.args.level c.args.round c.loop-y.left c.loop-y.next c.in-Some.y c.pop.new.self
    c.parents_of.result c.union-next.result c.loop-y.invariant c.in-Some.ensures.some.1 c.in-Some.ensures.rest c.parents_of.ensures c.union-next.ensures

pub returns : goal.returns
returns c = gathered_all c.args.rounds.now.sizes c.args.rounds.now.held c.args.level c.args.round c.loop-y.left c.loop-y.next c.loop-y.invariant c.in_default.ensures.none
