use Rattle.std.proofs.Common.{◌+◌, ◌-◌, ◌*◌}
use Rattle.bk_report.specs.Pages.{desk}
use Rattle.bk_tx.specs.Batches.{transactions_in}
use Rattle.bk_tables.specs.Payments.{payments_text, rows_in}
use Rattle.bk_tables.proofs.Walks.{InBatch}
use Rattle.bk_tables.proofs.transactions.put_batch.Given as goal

abbrev pub invariant-loop-index : goal.invariant-loop-index
invariant-loop-index g l = InBatch l.accounts l.receipts l.batch (l.place + l.index) (l.index-end - l.index) l.texts (desk l.initial.sheet.page (g.K.Sink.state l.initial.sink)) (desk l.sheet.page (g.K.Sink.state l.sink)) (1800 * l.index) (payments_text l.accounts (rows_in l.receipts l.batch l.place (transactions_in l.payload)))
