use Rattle.bk_diagnosis.proofs.Saying.{evidence_exact}
use Rattle.bk_diagnosis.proofs.evidence_laws.evidence_is_exact.Goals as goal

pub returns : goal.returns
returns c = evidence_exact
