use Rattle.std.proofs.Common.{◌≡◌}
use Rattle.rtrb.specs.Ring.{sent}
use Rattle.bk_ledger.proofs.handing.Giving.hand_on.Given as goal

abbrev pub invariant-loop : goal.invariant-loop
invariant-loop g l = (sent l.self.giver ≡ sent l.initial.self.giver) × (l.item ≡ l.initial.item)
