use Rattle.bk_laws.proofs.Rejecting.{rejected_are_broken}
use Rattle.bk_laws.proofs.laws.rejected_are_broken.Goals as goal

pub returns : goal.returns
returns c = rejected_are_broken
