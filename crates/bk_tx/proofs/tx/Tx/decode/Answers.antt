use Rattle.std.proofs.Common.{None, arith}
use Rattle.bk_tx.proofs.Transactions.{is_found, is_none}
use Rattle.bk_tx.proofs.tx.Tx.decode.Goals as goal

pub returns-then-read-clause-found : goal.returns-then-read-clause-found
returns-then-read-clause-found c = is_found c.args.bytes.now _ (λ i. omega (arith, c.type_inv.bytes i)) c.if-read.ensures

pub returns-else-read-clause-none : goal.returns-else-read-clause-none
returns-else-read-clause-none c = is_none c.args.bytes.now None c.if-read.ensures
