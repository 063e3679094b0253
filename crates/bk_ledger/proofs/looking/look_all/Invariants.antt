use Rattle.std.proofs.Common.{◌-◌, ◌≤◌, length, map}
use Rattle.rtrb.specs.Ring.{sent}
use Rattle.bk_ledger.specs.private.Handing.{AreLooked}
use Rattle.bk_ledger.proofs.looking.look_all.Given as goal

abbrev pub invariant-loop-from : goal.invariant-loop-from
invariant-loop-from g l = (l.from ≤ length l.payloads) × AreLooked (map (λ p. p.now) l.payloads) l.ids (sent l.giving.giver)

abbrev pub decreases-loop-from : goal.decreases-loop-from
decreases-loop-from g l = length l.payloads - l.from
