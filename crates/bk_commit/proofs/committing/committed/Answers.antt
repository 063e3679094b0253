use Rattle.std.proofs.Common.{[], refl}
use Rattle.bk_commit.proofs.Onward.{none_were, newest_none}
use Rattle.bk_commit.proofs.committing.committed.Goals as goal

pub returns : goal.returns
returns c = c.in_ok-anchors.ensures [] (none_were c.args.rounds.now.sizes c.args.rounds.now.held) (newest_none [] refl)
