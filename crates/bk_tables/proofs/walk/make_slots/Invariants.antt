use Rattle.std.proofs.Common.{◌≡◌, ◌++◌, List, Option, drop}
use Rattle.bk_tx.specs.Batches.{transactions_of}
use Rattle.bk_tx.specs.Transaction.{Transaction}
use Rattle.bk_tables.proofs.Slots.{AreMaking}
use Rattle.bk_tables.proofs.walk.make_slots.Given as goal

abbrev pub invariant-loop-index : goal.invariant-loop-index
invariant-loop-index l = record {
  so_far : List (Option Transaction);
  left : so_far ++ transactions_of (drop l.index l.intake.ordered.payloads.list) ≡ transactions_of (drop l.first l.intake.ordered.payloads.list);
  making : AreMaking so_far l.txs.items l.initial.state l.state;
}
