use Rattle.bk_evidence.proofs.Lawful.{evidence_is_one}
use Rattle.bk_evidence.proofs.laws.one_evidence.Goals as goal

pub returns : goal.returns
returns c = evidence_is_one
