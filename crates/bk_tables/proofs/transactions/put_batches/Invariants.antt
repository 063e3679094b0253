use Rattle.std.proofs.Common.{◌≡◌, ◌≤◌, ◌-◌, ◌*◌, drop, length, take}
use Rattle.bk_report.specs.Pages.{desk}
use Rattle.bk_tx.specs.Batches.{transactions_of}
use Rattle.bk_tables.specs.Payments.{payments_text, rows_from}
use Rattle.bk_tables.proofs.Done.{IsDone}
use Rattle.bk_tables.proofs.transactions.put_batches.Given as goal

abbrev pub invariant-loop-batch : goal.invariant-loop-batch
invariant-loop-batch g l = record {
  put : IsDone (desk l.initial.sheet.page (g.K.Sink.state l.initial.sink)) (desk l.sheet.page (g.K.Sink.state l.sink)) (1800 * (l.place - l.start)) (payments_text l.accounts (rows_from l.ledger.receipts l.first l.start (drop l.first l.intake.ordered.payloads.list))) (payments_text l.accounts (rows_from l.ledger.receipts l.batch l.place (drop l.batch l.intake.ordered.payloads.list)));
  place : l.place ≡ length (transactions_of (take l.batch l.intake.ordered.payloads.list));
  low : l.start ≤ l.place;
}
