use Rattle.bk_tail.proofs.RowsStay.{rows_stay}
use Rattle.bk_tail.proofs.laws.rows_stay.Goals as goal

pub returns : goal.returns
returns c = rows_stay
