use Rattle.bk_jobs.proofs.Ran.{answers}
use Rattle.bk_jobs.proofs.laws.answers_are_out.Goals as goal

pub returns : goal.returns
returns c = answers
