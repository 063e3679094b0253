use Rattle.bk_order.proofs.OneReading.{one_stop, no_stop}
use Rattle.bk_order.proofs.laws.frames_have_one_stop.Goals as goal

pub returns-clause-one : goal.returns-clause-one
returns-clause-one c = one_stop

pub returns-clause-none : goal.returns-clause-none
returns-clause-none c = λ k frames s none h. no_stop k frames s none h
