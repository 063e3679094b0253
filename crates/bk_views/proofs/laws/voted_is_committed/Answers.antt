use Rattle.bk_views.proofs.Committed.{voted_committed}
use Rattle.bk_views.proofs.laws.voted_is_committed.Goals as goal

pub returns : goal.returns
returns c = voted_committed
