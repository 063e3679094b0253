use Rattle.bk_follow.proofs.Following.{all_broken}
use Rattle.bk_follow.proofs.follower.Follower.fault.Goals as goal

pub returns-clause-broken : goal.returns-clause-broken
returns-clause-broken c = all_broken c.self.inside.fault c.self.inside.gathered.cutter c.self.inside.gathered.opened.committee c.self.inside.gathered.opened.book c.args.self.now c.self.view_is c.self.invariant.1
