use Rattle.bk_steps.proofs.Leaving.{runs_leave_fold}
use Rattle.bk_steps.proofs.laws.runs_leave_fold.Goals as goal

pub returns : goal.returns
returns c = runs_leave_fold
