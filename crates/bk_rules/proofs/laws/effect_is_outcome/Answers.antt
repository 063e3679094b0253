use Rattle.bk_rules.proofs.Storing.{effect_is_outcome}
use Rattle.bk_rules.proofs.laws.effect_is_outcome.Goals as goal

pub returns : goal.returns
returns c = effect_is_outcome
