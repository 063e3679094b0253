use Rattle.bk_laws.proofs.Proving.{proofs_are_good}
use Rattle.bk_laws.proofs.laws.proofs_of_feeds_are_good.Goals as goal

pub returns : goal.returns
returns c = proofs_are_good
