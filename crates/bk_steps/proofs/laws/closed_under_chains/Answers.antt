use Rattle.bk_steps.proofs.Owing.{chains_closed, conflicts_closed}
use Rattle.bk_steps.proofs.Running.{done_closed}
use Rattle.bk_steps.proofs.laws.closed_under_chains.Goals as goal

pub returns-clause-chains : goal.returns-clause-chains
returns-clause-chains c = chains_closed

pub returns-clause-conflicts : goal.returns-clause-conflicts
returns-clause-conflicts c = conflicts_closed

pub returns-clause-done : goal.returns-clause-done
returns-clause-done c = done_closed
