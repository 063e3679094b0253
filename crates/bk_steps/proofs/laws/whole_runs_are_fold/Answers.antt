use Rattle.bk_steps.proofs.Running.{whole_run_fold}
use Rattle.bk_steps.proofs.laws.whole_runs_are_fold.Goals as goal

pub returns : goal.returns
returns c = whole_run_fold
