use Rattle.bk_commit.proofs.Settled.{begin_each_other}
use Rattle.bk_flatten.proofs.Orders.{one_order, whole_begins}
use Rattle.bk_flatten.proofs.laws.one_order.Goals as goal

pub returns-clause-anchors : goal.returns-clause-anchors
returns-clause-anchors c = one_order

pub returns-clause-whole : goal.returns-clause-whole
returns-clause-whole c = λ z one other xs ys clear clear' part part' h k. begin_each_other xs ys
    (whole_begins z one other xs ys clear' part h k) (whole_begins z other one ys xs clear part' k h)
