use Rattle.bk_jobs.proofs.Answered.{all_work}
use Rattle.bk_jobs.proofs.laws.answers_fail_no_device.Goals as goal

pub returns : goal.returns
returns c = all_work
