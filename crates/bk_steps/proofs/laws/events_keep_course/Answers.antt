use Rattle.bk_steps.proofs.Claims.{keeps_claim}
use Rattle.bk_steps.proofs.Turns.{keeps_read}
use Rattle.bk_steps.proofs.Running.{keeps_effect, keeps_receipt, keeps_event, keeps_run}
use Rattle.bk_steps.proofs.laws.events_keep_course.Goals as goal

pub returns-clause-claim : goal.returns-clause-claim
returns-clause-claim c = keeps_claim

pub returns-clause-read : goal.returns-clause-read
returns-clause-read c = keeps_read

pub returns-clause-write : goal.returns-clause-write
returns-clause-write c = keeps_effect

pub returns-clause-finish : goal.returns-clause-finish
returns-clause-finish c = keeps_receipt

pub returns-clause-event : goal.returns-clause-event
returns-clause-event c = keeps_event

pub returns-clause-runs : goal.returns-clause-runs
returns-clause-runs c = keeps_run
