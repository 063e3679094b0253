use Rattle.bk_rules.proofs.Storing.{rows_same}
use Rattle.bk_rules.proofs.laws.rows_are_known.Goals as goal

pub returns : goal.returns
returns c = rows_same
