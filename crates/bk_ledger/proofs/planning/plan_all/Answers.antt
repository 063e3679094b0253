-- What was planned is handed on after all before it.
use Rattle.std.proofs.Common.{ℕ, ◌+◌, length, map, ap, subst}
use Rattle.rtrb.specs.Ring.{received, sent}
use Rattle.bk_ledger.specs.declared.planning.Planned.{Planned}
use Rattle.bk_ledger.specs.private.Handing.{AreHanded, ArePlanned}
use Rattle.bk_ledger.specs.private.Slices.{counts_of}
use Rattle.bk_ledger.proofs.HandingLemmas.{handed_more, planned_more}
use Rattle.bk_ledger.proofs.planning.plan_all.Goals as goal

pub loop-preserved : goal.loop-preserved
loop-preserved g c =
    let at : ℕ = c.loop.invariant.0 in
    let planned : Planned = record { payloads = c.in-Some-take_next.handed.payloads; version = c.args.version; ids = c.args.ids; next = c.in_ok-next.next } in
    let taken : AreHanded (map (λ p. p.now) c.args.payloads.now) (at + length c.in-Some-take_next.handed.read.counts.items) (received c.take_next.new.self.taker) =
    handed_more _ at _ _ c.in-Some-take_next.handed c.loop.invariant.1 c.in-Some-take_next.ensures.0 in
    let gave : ArePlanned (map (λ p. p.now) c.args.payloads.now) c.args.version c.args.ids.now (at + length (counts_of c.in_ok-next.next)) (sent c.hand_on.new.self.giver) =
    planned_more _ _ _ at _ _ planned c.loop.invariant.2 (c.hand_on.ensures.sent c.if-not-hand_on.false) in (
      at + length c.in-Some-take_next.handed.read.counts.items,
      taken,
      subst (λ (n : ℕ). ArePlanned (map (λ p. p.now) c.args.payloads.now) c.args.version c.args.ids.now (at + n) (sent c.hand_on.new.self.giver)) (ap length c.in_ok-next.ensures.counts_are) gave,
    )
