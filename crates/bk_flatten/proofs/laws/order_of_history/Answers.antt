use Rattle.std.proofs.Common.{reverse}
use Rattle.bk_flatten.proofs.Orders.{order_present}
use Rattle.bk_flatten.proofs.Extended.{order_has_history}
use Rattle.bk_flatten.proofs.laws.order_of_history.Goals as goal

pub returns-clause-history : goal.returns-clause-history
returns-clause-history c = order_has_history

pub returns-clause-present : goal.returns-clause-present
returns-clause-present c = λ z held xs h. order_present z held (reverse h.anchors) xs h.committed h.ordered
