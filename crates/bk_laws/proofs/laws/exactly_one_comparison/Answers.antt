use Rattle.bk_laws.proofs.Comparing.{exactly_one_comparison}
use Rattle.bk_laws.proofs.laws.exactly_one_comparison.Goals as goal

pub returns : goal.returns
returns c = exactly_one_comparison
