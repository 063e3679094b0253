use Rattle.std.proofs.Common.{arith}
use Rattle.bk_tx.proofs.Batches.{read_is_found, read_is_void}
use Rattle.bk_tx.proofs.batch.read_batch.Goals as goal

pub returns-clause-found : goal.returns-clause-found
returns-clause-found c = read_is_found c.args.bytes.now c.batch.result (λ i. omega (arith, c.type_inv.bytes i)) c.batch.ensures.exact

pub returns-clause-void : goal.returns-clause-void
returns-clause-void c = read_is_void c.args.bytes.now c.batch.result c.batch.ensures.exact
