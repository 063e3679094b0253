use Rattle.bk_tables.proofs.PlaceRows.{have_status}
use Rattle.bk_tables.proofs.laws.rows_have_status.Goals as goal

pub returns : goal.returns
returns c = have_status
