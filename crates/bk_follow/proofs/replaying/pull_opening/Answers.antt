use Rattle.bk_frames.proofs.Devices.{ends_not_yet}
use Rattle.bk_follow.proofs.Gathered.{none_pulled}
use Rattle.bk_follow.proofs.Openings.{stays_itself, stays_then}
use Rattle.bk_follow.proofs.replaying.pull_opening.Goals as goal

pub groups-init : goal.groups-init
groups-init g c = record { pulled = none_pulled (g.S.Source.state c.args.source.now) c.args.gathered.now c.requires.first; goes_on = ends_not_yet (g.S.Source.state c.args.source.now); stays = stays_itself c.args.gathered.now.opened.book; some = c.requires.some; few = c.requires.few }

pub returns-then-branch-clause-all : goal.returns-then-branch-clause-all
returns-then-branch-clause-all g c = λ _. c.in_ok-pull.ensures.all c.if-branch.true (g.S.Source.state c.args.source.now) c.groups.invariant.pulled c.groups.invariant.goes_on

pub returns-then-branch-clause-stays : goal.returns-then-branch-clause-stays
returns-then-branch-clause-stays g c = stays_then c.args.gathered.now.opened.book c.groups.gathered.opened.book c.pull.new.self.opened.book c.groups.invariant.stays c.in_ok-pull.ensures.stays
