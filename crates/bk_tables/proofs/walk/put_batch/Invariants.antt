use Rattle.std.proofs.Common.{◌+◌, ◌-◌, ◌*◌}
use Rattle.bk_report.specs.Pages.{desk}
use Rattle.bk_rules.specs.Fold.{state_after}
use Rattle.bk_rules.specs.Ledger.{ledger_of}
use Rattle.bk_tx.specs.Batches.{transactions_in}
use Rattle.bk_tables.specs.Postings.{postings_text}
use Rattle.bk_tables.specs.private.Walking.{walk_rows}
use Rattle.bk_tables.proofs.PostingWalks.{InBatch}
use Rattle.bk_tables.proofs.walk.put_batch.Given as goal

abbrev pub invariant-loop-index : goal.invariant-loop-index
invariant-loop-index g l = InBatch l.accounts (l.place + l.index) (l.index-end - l.index) l.texts l.state (ledger_of l.initial.state.version l.initial.state.slots (state_after l.initial.state.version (transactions_in l.payload) l.initial.state.rows)) (desk l.initial.sheet.page (g.K.Sink.state l.initial.sink)) (desk l.sheet.page (g.K.Sink.state l.sink)) (1200 * l.index) (postings_text l.accounts (walk_rows l.initial.state.version l.place (transactions_in l.payload) l.initial.state.rows))
