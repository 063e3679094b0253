use Rattle.std.proofs.Common.{◌-◌, ◌≤◌, length, map}
use Rattle.bk_ledger.specs.private.Widened.{IsWidenedTo}
use Rattle.bk_ledger.proofs.widening.widen_state.Given as goal

abbrev pub invariant-loop-from : goal.invariant-loop-from
invariant-loop-from l = record {
  within : l.from ≤ length l.payloads;
  so_far : IsWidenedTo (map (λ p. p.now) l.payloads) l.from l.initial.state l.state;
}

abbrev pub decreases-loop-from : goal.decreases-loop-from
decreases-loop-from l = length l.payloads - l.from
