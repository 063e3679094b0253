use Rattle.bk_diagnosis.proofs.Saying.{stays_said}
use Rattle.bk_diagnosis.proofs.evidence_laws.evidence_stays.Goals as goal

pub returns : goal.returns
returns c = stays_said
