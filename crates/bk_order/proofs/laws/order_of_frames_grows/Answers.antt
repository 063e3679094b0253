use Rattle.bk_order.proofs.Sets.{frames_grow}
use Rattle.bk_order.proofs.OneReading.{one_ordered}
use Rattle.bk_order.proofs.Ordering.{none_ordered}
use Rattle.bk_order.proofs.laws.order_of_frames_grows.Goals as goal

pub returns-clause-grows : goal.returns-clause-grows
returns-clause-grows c = frames_grow

pub returns-clause-one : goal.returns-clause-one
returns-clause-one c = one_ordered

pub returns-clause-none : goal.returns-clause-none
returns-clause-none c = none_ordered
