use Rattle.bk_pool.proofs.Folds.{receipts_shown}
use Rattle.bk_pool.proofs.laws.scenes_show_receipts.Goals as goal

pub returns : goal.returns
returns c = receipts_shown
