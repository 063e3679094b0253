use Rattle.std.proofs.Common.{◌≡◌, ◌≤◌, ◌-◌, ◌*◌, drop, length, take}
use Rattle.bk_report.specs.Pages.{desk}
use Rattle.bk_rules.specs.Fold.{state_after}
use Rattle.bk_rules.specs.Ledger.{ledger_of}
use Rattle.bk_tx.specs.Batches.{transactions_of}
use Rattle.bk_tables.specs.Postings.{postings_text}
use Rattle.bk_tables.specs.private.Walking.{walk_rows}
use Rattle.bk_tables.proofs.PostingWalks.{IsWalking}
use Rattle.bk_tables.proofs.walk.put_batches.Given as goal

abbrev pub invariant-loop-batch : goal.invariant-loop-batch
invariant-loop-batch g l = record {
  walks : IsWalking l.accounts (transactions_of (drop l.batch l.intake.ordered.payloads.list)) l.place l.state (ledger_of l.initial.state.version l.initial.state.slots (state_after l.initial.state.version (transactions_of (drop l.first l.intake.ordered.payloads.list)) l.initial.state.rows)) (desk l.initial.sheet.page (g.K.Sink.state l.initial.sink)) (desk l.sheet.page (g.K.Sink.state l.sink)) (1200 * (l.place - l.start)) (postings_text l.accounts (walk_rows l.initial.state.version l.start (transactions_of (drop l.first l.intake.ordered.payloads.list)) l.initial.state.rows));
  place : l.place ≡ length (transactions_of (take l.batch l.intake.ordered.payloads.list));
  low : l.start ≤ l.place;
}
