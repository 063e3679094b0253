use Rattle.bk_laws.proofs.Fitting.{accounts_fit}
use Rattle.bk_laws.proofs.laws.accounts_fit.Goals as goal

pub returns : goal.returns
returns c = accounts_fit
