use Rattle.bk_jobs.proofs.Ran.{blames, writes_nothing}
use Rattle.bk_jobs.proofs.laws.refusals_blame_bytes.Goals as goal

pub returns-clause-blame : goal.returns-clause-blame
returns-clause-blame c = blames

pub returns-clause-unwritten : goal.returns-clause-unwritten
returns-clause-unwritten c = writes_nothing
