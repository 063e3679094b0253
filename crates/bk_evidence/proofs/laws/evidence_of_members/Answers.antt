use Rattle.bk_evidence.proofs.Members.{evidence_same, no_twins_same}
use Rattle.bk_evidence.proofs.laws.evidence_of_members.Goals as goal

pub returns : goal.returns
returns c = λ xs ys same. (evidence_same xs ys same, no_twins_same xs ys same)
