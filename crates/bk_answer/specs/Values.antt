-- What contracts see of a feed that ended.
use Rattle.bk_answer.specs.declared.closed.Closed.{Closed}
use Rattle.bk_answer.specs.declared.closed.ClosedOrder.{ClosedOrder}
use Rattle.bk_answer.specs.Closed.{ClosedValue, OrderValue}

abbrev pub order_value : ClosedOrder → OrderValue
order_value o = record { opening = o.opening.now; taken = o.intake.now }

abbrev pub closed_value : Closed → ClosedValue
closed_value c = record { order = order_value c.order; ledger = c.ledger.now }
