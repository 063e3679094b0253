use Rattle.std.proofs.Common.{◌≡◌, length, take}
use Rattle.bk_tx.specs.Batches.{transactions_of}
use Rattle.bk_views.specs.Told.{IsToldOf}
use Rattle.bk_ask.specs.private.Replies.{course_in}
use Rattle.bk_ask.proofs.replying.statement_of.Given as goal

abbrev pub invariant-loop-index : goal.invariant-loop-index
invariant-loop-index l = record {
  id : l.statement.id ≡ l.id;
  place : l.statement.place ≡ length (transactions_of (take l.index l.intake.ordered.payloads.list));
  told : IsToldOf (course_in l.intake l.opening l.ledger) l.statement;
}
