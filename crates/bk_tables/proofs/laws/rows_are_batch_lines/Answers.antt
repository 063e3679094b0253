use Rattle.bk_tables.proofs.RowLaws.{batch_lines_are}
use Rattle.bk_tables.proofs.laws.rows_are_batch_lines.Goals as goal

pub returns : goal.returns
returns c = batch_lines_are
