use Rattle.bk_diagnosis.proofs.Gained.{gained_whole}
use Rattle.bk_diagnosis.proofs.laws.gained_is_whole.Goals as goal

pub returns : goal.returns
returns c = gained_whole
