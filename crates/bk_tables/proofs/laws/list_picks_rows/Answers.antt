use Rattle.bk_tables.proofs.RowLaws.{list_picks}
use Rattle.bk_tables.proofs.laws.list_picks_rows.Goals as goal

pub returns : goal.returns
returns c = list_picks
