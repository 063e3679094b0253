use Rattle.std.proofs.Common.{ap}
use Rattle.bk_flatten.specs.Batches.{payloads_of}
use Rattle.bk_order.specs.Orders.{ordered_with}
use Rattle.bk_order.proofs.Ordering.{followed_none, none_voted}
use Rattle.bk_order.proofs.settling.unsettled.Goals as goal

pub returns-clause-followed : goal.returns-clause-followed
returns-clause-followed c = λ z held batches. followed_none z held batches (record { walk = c.new.result; flat = c.new-2.result; list = c.new-3.result }) c.new.ensures c.new-2.ensures
    (ap (λ l. l.digests) c.new-3.ensures) (ap (λ l. l.found) c.new-3.ensures) (none_voted z)

pub returns-clause-nothing : goal.returns-clause-nothing
returns-clause-nothing c = λ batches i. ordered_with (c.new.ensures i) (c.new-2.ensures i) (payloads_of batches (c.new-3.ensures i))
