use Rattle.bk_rules.proofs.Folding.{ledger_kept_by_fold, ids_kept_by_fold}
use Rattle.bk_rules.proofs.laws.fold_keeps_ledger.Goals as goal

pub returns-clause-ledger : goal.returns-clause-ledger
returns-clause-ledger c = ledger_kept_by_fold

pub returns-clause-ids : goal.returns-clause-ids
returns-clause-ids c = ids_kept_by_fold
