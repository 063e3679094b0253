use Rattle.std.proofs.Common.{sym, ◌∙◌, arith}
use Rattle.bk_tx.proofs.Transactions.{filled_is_sound}
use Rattle.bk_tx.proofs.tx.Tx.read.Goals as goal

pub invariant_of-self-else-not-is_read : goal.invariant_of-self-else-not-is_read
invariant_of-self-else-not-is_read c = filled_is_sound c.args.bytes.now _ c.read_parts.result (λ i. omega (arith, c.type_inv.bytes i)) c.read_parts.ensures (sym c.is_some-is_read.ensures ∙ c.if-not-is_read.false)
