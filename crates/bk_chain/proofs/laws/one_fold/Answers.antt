use Rattle.bk_chain.proofs.Folded.{one_fold}
use Rattle.bk_chain.proofs.laws.one_fold.Goals as goal

pub returns : goal.returns
returns c = one_fold
