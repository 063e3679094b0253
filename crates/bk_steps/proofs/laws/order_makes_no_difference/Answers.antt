use Rattle.bk_steps.proofs.Running.{ends_alike}
use Rattle.bk_steps.proofs.laws.order_makes_no_difference.Goals as goal

pub returns : goal.returns
returns c = ends_alike
