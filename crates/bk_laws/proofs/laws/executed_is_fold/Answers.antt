use Rattle.bk_laws.proofs.Following.{executed_is_fold}
use Rattle.bk_laws.proofs.laws.executed_is_fold.Goals as goal

pub returns : goal.returns
returns c = executed_is_fold
