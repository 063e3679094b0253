use Rattle.bk_steps.proofs.InOrder.{whole_runs_exist}
use Rattle.bk_steps.proofs.laws.whole_runs_exist.Goals as goal

pub returns : goal.returns
returns c = whole_runs_exist
