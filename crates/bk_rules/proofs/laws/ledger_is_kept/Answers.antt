use Rattle.bk_rules.proofs.Kept.{ledger_kept, ids_kept}
use Rattle.bk_rules.proofs.laws.ledger_is_kept.Goals as goal

pub returns-clause-ledger : goal.returns-clause-ledger
returns-clause-ledger c = ledger_kept

pub returns-clause-ids : goal.returns-clause-ids
returns-clause-ids c = ids_kept
