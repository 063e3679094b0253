use Rattle.std.proofs.Common.{◌≡◌, ◌+◌, map}
use Rattle.bk_tx.specs.Batch.{cuts}
use Rattle.bk_tx.specs.Reading.{transaction_of}
use Rattle.bk_views.specs.Statement.{Course}
use Rattle.bk_views.specs.Told.{AreNext, IsRun, IsToldOf}
use Rattle.bk_views.proofs.statement.Statement.take_all.Given as goal

abbrev pub invariant-loop-slice : goal.invariant-loop-slice
invariant-loop-slice l = record {
  id : l.self.id ≡ l.initial.self.id;
  place : l.self.place ≡ l.initial.self.place + l.slice-index;
  told : (c : Course) → IsRun c l.receipts → AreNext c l.initial.self.place (map transaction_of (cuts l.payload l.slices)) → IsToldOf c l.initial.self → IsToldOf c l.self;
}
