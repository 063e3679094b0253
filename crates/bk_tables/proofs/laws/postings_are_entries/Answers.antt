use Rattle.bk_tables.proofs.WholeStatements.{are_entries}
use Rattle.bk_tables.proofs.laws.postings_are_entries.Goals as goal

pub returns : goal.returns
returns c = are_entries
