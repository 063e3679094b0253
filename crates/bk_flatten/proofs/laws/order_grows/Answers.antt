use Rattle.bk_flatten.proofs.Orders.{whole_begins}
use Rattle.bk_flatten.proofs.laws.order_grows.Goals as goal

pub returns : goal.returns
returns c = whole_begins
