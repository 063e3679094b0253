use Rattle.bk_tx.proofs.Transactions.{transaction_takes, transaction_again}
use Rattle.bk_tx.proofs.laws.one_spelling_of_a_transaction.Goals as goal

pub returns-clause-again : goal.returns-clause-again
returns-clause-again c = transaction_again

pub returns-clause-only : goal.returns-clause-only
returns-clause-only c = transaction_takes
