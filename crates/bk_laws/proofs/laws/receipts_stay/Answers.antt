use Rattle.bk_laws.proofs.Following.{receipts_stay}
use Rattle.bk_laws.proofs.laws.receipts_stay.Goals as goal

pub returns : goal.returns
returns c = receipts_stay
