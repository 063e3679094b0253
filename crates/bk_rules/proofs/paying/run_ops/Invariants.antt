use Rattle.std.proofs.Common.{◌≡◌, ◌≤◌, length, take, vec_len, vec_capacity}
use Rattle.bk_rules.specs.Fold.{state_after, receipts_of}
use Rattle.bk_rules.specs.Ledger.{ledger_of}
use Rattle.bk_rules.proofs.paying.run_ops.Given as goal

abbrev pub invariant-loop-i : goal.invariant-loop-i
invariant-loop-i l = record {
  state : l.state ≡ ledger_of l.initial.state.version l.initial.state.slots (state_after l.initial.state.version (take l.i l.txs) l.initial.state.rows);
  receipts : l.receipts.items ≡ receipts_of l.initial.state.version (take l.i l.txs) l.initial.state.rows;
  room : length l.txs ≤ vec_capacity l.receipts;
  count : vec_len l.receipts ≡ l.i;
}
