use Rattle.bk_rounds.proofs.Fit.{good_fits}
use Rattle.bk_rounds.proofs.laws.good_is_fit.Goals as goal

pub returns : goal.returns
returns c = good_fits
