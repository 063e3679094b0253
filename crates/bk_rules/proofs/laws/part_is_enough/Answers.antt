use Rattle.bk_rules.proofs.Parts.{part_receipts, part_state}
use Rattle.bk_rules.proofs.laws.part_is_enough.Goals as goal

pub returns-clause-receipts : goal.returns-clause-receipts
returns-clause-receipts c = part_receipts

pub returns-clause-state : goal.returns-clause-state
returns-clause-state c = λ v slots ids txs rows after ledger have held put. part_state v slots ids txs rows ledger have held after put
