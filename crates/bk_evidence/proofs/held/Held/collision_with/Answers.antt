use Rattle.std.proofs.Common.{◌++◌}
use Rattle.bk_evidence.proofs.Members.{collision_for}
use Rattle.bk_evidence.proofs.held.Held.collision_with.Goals as goal

pub returns : goal.returns
returns c = collision_for c.in_ok-all.all (c.args.self.now ++ c.args.other.now) c.in_ok-all.ensures c.collision.result c.collision.ensures
