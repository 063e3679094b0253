use Rattle.bk_bundles.proofs.Runs.{runs_are_runs}
use Rattle.bk_bundles.proofs.laws.bundle_runs_are_runs.Goals as goal

pub returns : goal.returns
returns c = runs_are_runs
