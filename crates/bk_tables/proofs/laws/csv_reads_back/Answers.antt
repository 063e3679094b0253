use Rattle.bk_tables.proofs.ReadBack.{batches_read, payments_read, postings_read}
use Rattle.bk_tables.proofs.laws.csv_reads_back.Goals as goal

pub returns-clause-batches : goal.returns-clause-batches
returns-clause-batches c = batches_read

pub returns-clause-transactions : goal.returns-clause-transactions
returns-clause-transactions c = payments_read

pub returns-clause-postings : goal.returns-clause-postings
returns-clause-postings c = postings_read
