use Rattle.std.proofs.Common.{◌≡◌}
use Rattle.rtrb.specs.Ring.{received}
use Rattle.bk_ledger.proofs.handing.Taking.take_next.Given as goal

abbrev pub invariant-loop : goal.invariant-loop
invariant-loop g l = received l.self.taker ≡ received l.initial.self.taker
