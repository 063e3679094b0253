use Rattle.std.proofs.Common.{refl, sym, arith}
use Rattle.bk_tx.specs.Transaction.{transaction}
use Rattle.bk_tx.proofs.Transactions.{not_made, not_apart, is_made}
use Rattle.bk_tx.proofs.tx.Tx.new.Goals as goal

pub returns-then-pays-clause-exact : goal.returns-then-pays-clause-exact
returns-then-pays-clause-exact c =
    let made = transaction c.args.declared c.args.seq c.args.from c.args.body in
    not_made made (not_apart made (sym c.if-pays.ensures))

pub invariant_of-result : goal.invariant_of-result
invariant_of-result c = is_made (transaction c.args.declared c.args.seq c.args.from c.args.body) (sym c.if-is_empty.ensures) c.if-not-is_ascending.ensures.few (sym c.if-not-is_ascending.ensures.test) c.if-not-is_ascending.ensures.fit (c.if-not-is_sound.ensures.0 refl) (sym c.if-pays.ensures) (omega arith) (omega arith)

pub returns-clause-exact : goal.returns-clause-exact
returns-clause-exact c = ((λ _. invariant_of-result c), λ _. refl)
