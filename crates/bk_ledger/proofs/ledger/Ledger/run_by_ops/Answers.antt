use Rattle.std.proofs.Common.{length, sym, subst}
use Rattle.bk_rules.specs.Fold.{HasRoom}
use Rattle.bk_ledger.specs.Ledger.{LedgerValue}
use Rattle.bk_ledger.proofs.NextLemmas.{run_here}
use Rattle.bk_ledger.proofs.ledger.Ledger.run_by_ops.Goals as goal

pub returns-clause-ran : goal.returns-clause-ran
returns-clause-ran c =
    rw (← c.self.view_is) (run_here c.args.batches.now.counts.items c.args.batches.now.txs.items _ _
    (rw c.deref-4.ensures.value at c.in_ok-extend_from_slice-2.ensures.items)
    (rw (c.deref-3.ensures.value, c.in_ok-receipts.ensures.receipts, c.deref.ensures.value) at c.in_ok-extend_from_slice.ensures.items)
    (rw c.deref.ensures.value at c.in_ok-receipts.ensures.after) c.version.ensures.ledger
    (subst (λ (l : LedgerValue). HasRoom l.state.version (length c.args.batches.now.txs.items) l.state.rows) (sym c.self.view_is) c.requires.room))
