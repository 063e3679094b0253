use Rattle.bk_laws.proofs.Runnable.{exactly_one_schedule_answer}
use Rattle.bk_laws.proofs.laws.exactly_one_schedule_answer.Goals as goal

pub returns : goal.returns
returns c = exactly_one_schedule_answer c.one_answer.ensures.whole c.one_answer.ensures.fault
