use Rattle.bk_tables.proofs.RowLaws.{list_picks_accounts}
use Rattle.bk_tables.proofs.laws.list_picks_postings.Goals as goal

pub returns : goal.returns
returns c = list_picks_accounts
