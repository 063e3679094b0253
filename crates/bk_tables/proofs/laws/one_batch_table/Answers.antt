use Rattle.bk_tables.proofs.OneTable.{one_batches}
use Rattle.bk_tables.proofs.laws.one_batch_table.Goals as goal

pub returns : goal.returns
returns c = one_batches
