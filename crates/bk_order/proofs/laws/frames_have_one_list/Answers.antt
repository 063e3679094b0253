use Rattle.bk_order.proofs.OneReading.{one_rejects, one_waiting}
use Rattle.bk_order.proofs.laws.frames_have_one_list.Goals as goal

pub returns-clause-rejects : goal.returns-clause-rejects
returns-clause-rejects c = one_rejects

pub returns-clause-waiting : goal.returns-clause-waiting
returns-clause-waiting c = one_waiting
