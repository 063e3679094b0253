use Rattle.bk_ledger.proofs.Sliced.{slices_leave_fold}
use Rattle.bk_ledger.proofs.laws.slices_leave_fold.Goals as goal

pub returns : goal.returns
returns c = slices_leave_fold
