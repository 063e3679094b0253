use Rattle.bk_tx.proofs.Batches.{batch_takes, batch_again}
use Rattle.bk_tx.proofs.laws.one_spelling_of_a_batch.Goals as goal

pub returns-clause-again : goal.returns-clause-again
returns-clause-again c = batch_again

pub returns-clause-only : goal.returns-clause-only
returns-clause-only c = batch_takes
