use Rattle.bk_rules.proofs.Folding.{state_append, receipts_append}
use Rattle.bk_rules.proofs.laws.fold_appends.Goals as goal

pub returns-clause-state : goal.returns-clause-state
returns-clause-state c = state_append

pub returns-clause-receipts : goal.returns-clause-receipts
returns-clause-receipts c = receipts_append
