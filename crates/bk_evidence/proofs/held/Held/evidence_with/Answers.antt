use Rattle.std.proofs.Common.{◌++◌}
use Rattle.bk_evidence.proofs.Members.{evidence_for}
use Rattle.bk_evidence.proofs.held.Held.evidence_with.Goals as goal

pub returns : goal.returns
returns c = evidence_for c.in_ok-all.all (c.args.self.now ++ c.args.other.now) c.in_ok-all.ensures c.evidence.result c.evidence.ensures
