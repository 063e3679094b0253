use Rattle.std.proofs.Common.{◌≡◌, ◌-◌, ◌≤◌, length, map}
use Rattle.rtrb.specs.Ring.{received}
use Rattle.bk_ledger.specs.private.Handing.{ArePlanned}
use Rattle.bk_ledger.specs.private.Slices.{IsOnTheWay}
use Rattle.bk_ledger.proofs.ledger.Ledger.run_planned.Given as goal

abbrev pub invariant-loop-from : goal.invariant-loop-from
invariant-loop-from g l = record {
  way : IsOnTheWay (map (λ p. p.now) l.payloads) l.from l.fn.self l.ledger;
  slots : l.ledger.state.slots ≡ l.fn.self.state.slots;
  within : l.from ≤ length l.payloads;
  planned : ArePlanned (map (λ p. p.now) l.payloads) l.fn.self.state.version l.fn.self.state.slots l.from (received l.plans.taker);
}

abbrev pub decreases-loop-from : goal.decreases-loop-from
decreases-loop-from g l = length l.payloads - l.from
