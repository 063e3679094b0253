use Rattle.std.proofs.Common.{◌<◌, arith}
use Rattle.bk_rounds.proofs.Tallied.{newest_last, newest_none}
use Rattle.bk_rounds.proofs.rounds.Rounds.newest_voted.Goals as goal

pub returns-then-round-eq0 : goal.returns-then-round-eq0
returns-then-round-eq0 c = rw (← c.self.view_is) (newest_none c.self.inside.table.sizes c.self.inside.table.held c.self.inside.votes c.self.invariant (omega arith))

pub returns : goal.returns
returns c =
    let some : 0 < c.self.inside.votes.newest = omega arith in
    rw (← c.self.view_is, c.leader.ensures.is) (newest_last c.self.inside.table.sizes c.self.inside.table.held c.self.inside.votes c.self.invariant some)
