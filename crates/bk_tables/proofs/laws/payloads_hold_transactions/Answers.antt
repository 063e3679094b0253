use Rattle.bk_tables.proofs.HeldTransactions.{payloads_hold}
use Rattle.bk_tables.proofs.laws.payloads_hold_transactions.Goals as goal

pub returns : goal.returns
returns c = payloads_hold
