use Rattle.std.proofs.Common.{arith}
use Rattle.bk_commit.proofs.Levels.{voter_below}
use Rattle.bk_commit.proofs.Last.{present_member, present_round}
use Rattle.bk_commit.proofs.anchors.votes_for.Goals as goal

pub returns : goal.returns
returns c = λ x. (
  (λ h. ((c.loop-x.invariant x).0 h).1),
  (λ v. (c.loop-x.invariant x).1 (let low = voter_below c.args.rounds.now.sizes c.args.rounds.now.held c.args.a x c.sound.ensures.good v in omega (arith, low, c.members-x-end.ensures.is), v)),
)

pub overflow_add-child : goal.overflow_add-child
overflow_add-child c = let low = present_round c.args.rounds.now.sizes c.args.rounds.now.held c.args.a c.sound.ensures.good c.requires in omega (arith, low)

pub has-requires : goal.has-requires
has-requires c = let low = present_member c.args.rounds.now.sizes c.args.rounds.now.held c.args.a c.sound.ensures.good c.requires in omega (arith, low, c.members-x-end.ensures.is, c.members-x-end.ensures.few)
