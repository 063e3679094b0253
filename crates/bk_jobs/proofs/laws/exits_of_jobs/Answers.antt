use Rattle.bk_jobs.proofs.Ran.{exits}
use Rattle.bk_jobs.proofs.laws.exits_of_jobs.Goals as goal

pub returns : goal.returns
returns c = exits
