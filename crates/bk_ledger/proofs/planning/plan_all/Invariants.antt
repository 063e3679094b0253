use Rattle.std.proofs.Common.{ℕ, map}
use Rattle.rtrb.specs.Ring.{received, sent}
use Rattle.bk_ledger.specs.private.Handing.{AreHanded, ArePlanned}
use Rattle.bk_ledger.proofs.planning.plan_all.Given as goal

abbrev pub invariant-loop : goal.invariant-loop
invariant-loop g l =
    (at : ℕ) × AreHanded (map (λ p. p.now) l.fn.payloads) at (received l.taking.taker) × ArePlanned (map (λ p. p.now) l.fn.payloads) l.version l.ids at (sent l.giving.giver)
