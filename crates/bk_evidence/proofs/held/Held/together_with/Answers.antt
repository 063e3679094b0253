use Rattle.std.proofs.Common.{◌++◌}
use Rattle.bk_evidence.proofs.Members.{collision_for, evidence_for}
use Rattle.bk_evidence.proofs.held.Held.together_with.Goals as goal

pub returns-clause-collision : goal.returns-clause-collision
returns-clause-collision c = collision_for c.in_ok-all.all (c.args.self.now ++ c.args.other.now) c.in_ok-all.ensures c.collision-collision.result c.collision-collision.ensures

pub returns-clause-evidence : goal.returns-clause-evidence
returns-clause-evidence c = evidence_for c.in_ok-all.all (c.args.self.now ++ c.args.other.now) c.in_ok-all.ensures c.evidence-evidence.result c.evidence-evidence.ensures
