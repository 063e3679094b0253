use Rattle.bk_diagnosis.proofs.Kept.{waits_kept}
use Rattle.bk_diagnosis.proofs.laws.waits_where_kept.Goals as goal

pub returns : goal.returns
returns c = waits_kept
