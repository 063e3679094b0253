use Rattle.bk_bundles.proofs.Last.{last_fold}
use Rattle.bk_bundles.proofs.laws.last_fold_is_fold.Goals as goal

pub returns : goal.returns
returns c = last_fold
