use Rattle.std.proofs.Common.{◌≡◌, ◌++◌, drop}
use Rattle.bk_rules.specs.Fold.{receipts_of, state_after}
use Rattle.bk_plain.proofs.fold.fold_of.Given as goal

abbrev pub invariant-loop-tx : goal.invariant-loop-tx
invariant-loop-tx l = record {
  receipts : l.receipts.items ++ receipts_of l.version (drop l.tx-index l.txs) l.before.items ≡ receipts_of l.version l.txs l.fn.rows;
  after : state_after l.version (drop l.tx-index l.txs) l.before.items ≡ state_after l.version l.txs l.fn.rows;
}
