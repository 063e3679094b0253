use Rattle.bk_laws.proofs.Growing.{ordered_is_final}
use Rattle.bk_laws.proofs.laws.ordered_is_final.Goals as goal

pub returns : goal.returns
returns c = ordered_is_final
