use Rattle.bk_report.proofs.MadeProofs.{made_is_good}
use Rattle.bk_report.proofs.laws.made_proofs_are_good.Goals as goal

pub returns : goal.returns
returns c = made_is_good
