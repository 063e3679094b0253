use Rattle.bk_laws.proofs.Rejecting.{rejected_stay}
use Rattle.bk_laws.proofs.laws.rejected_stay.Goals as goal

pub returns : goal.returns
returns c = rejected_stay
