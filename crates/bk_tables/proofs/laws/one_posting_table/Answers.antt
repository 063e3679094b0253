use Rattle.bk_tables.proofs.OneTable.{one_postings}
use Rattle.bk_tables.proofs.laws.one_posting_table.Goals as goal

pub returns : goal.returns
returns c = one_postings
