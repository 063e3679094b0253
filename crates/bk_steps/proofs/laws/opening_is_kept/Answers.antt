use Rattle.bk_steps.proofs.Claims.{keeps_opening}
use Rattle.bk_steps.proofs.laws.opening_is_kept.Goals as goal

pub returns : goal.returns
returns c = keeps_opening
