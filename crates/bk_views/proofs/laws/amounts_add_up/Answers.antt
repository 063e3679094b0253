use Rattle.bk_views.proofs.Adding.{amounts}
use Rattle.bk_views.proofs.laws.amounts_add_up.Goals as goal

pub returns : goal.returns
returns c = amounts
