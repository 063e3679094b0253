use Rattle.std.proofs.Common.{◌≡◌, ◌≤◌, ◌-◌, length, map}
use Rattle.bk_ledger.specs.private.Slices.{IsOnTheWay}
use Rattle.bk_ledger.proofs.ledger.Ledger.execute_alone.Given as goal

abbrev pub invariant-loop-from : goal.invariant-loop-from
invariant-loop-from g l = record {
  within : l.from ≤ length l.payloads;
  way : IsOnTheWay (map (λ p. p.now) l.payloads) l.from l.fn.self l.ledger;
  slots : l.ledger.state.slots ≡ l.fn.self.state.slots;
}

abbrev pub decreases-loop-from : goal.decreases-loop-from
decreases-loop-from g l = length l.payloads - l.from
