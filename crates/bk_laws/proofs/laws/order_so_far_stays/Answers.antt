use Rattle.bk_laws.proofs.Following.{order_so_far_stays}
use Rattle.bk_laws.proofs.laws.order_so_far_stays.Goals as goal

pub returns : goal.returns
returns c = order_so_far_stays
