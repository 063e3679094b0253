use Rattle.bk_diagnosis.proofs.FirstMissing.{first_missing}
use Rattle.bk_diagnosis.proofs.laws.first_is_missing.Goals as goal

pub returns : goal.returns
returns c = first_missing
