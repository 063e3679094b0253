use Rattle.bk_order.proofs.Sets.{stop_same, none_same, order_same}
use Rattle.bk_order.proofs.laws.frames_are_a_set.Goals as goal

pub returns : goal.returns
returns c = λ k one other into back. (stop_same k one other into back, none_same k one other into back, order_same k one other into back)
