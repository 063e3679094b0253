use Rattle.bk_tables.proofs.OneTable.{one_payments}
use Rattle.bk_tables.proofs.laws.one_payment_table.Goals as goal

pub returns : goal.returns
returns c = one_payments
