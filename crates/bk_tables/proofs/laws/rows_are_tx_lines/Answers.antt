use Rattle.bk_tables.proofs.PlaceRows.{are_lines}
use Rattle.bk_tables.proofs.laws.rows_are_tx_lines.Goals as goal

pub returns : goal.returns
returns c = are_lines
