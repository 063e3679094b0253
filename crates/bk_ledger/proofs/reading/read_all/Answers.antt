-- One slice more was handed on.
use Rattle.std.proofs.Common.{◌≡◌, ℕ, ◌+◌, length, map, subst, arith}
use Rattle.rtrb.specs.Ring.{sent}
use Rattle.bk_ledger.specs.declared.reading.Handed.{Handed}
use Rattle.bk_ledger.specs.private.Handing.{AreHanded}
use Rattle.bk_ledger.proofs.SliceLemmas.{lent_count}
use Rattle.bk_ledger.proofs.HandingLemmas.{handed_more}
use Rattle.bk_ledger.proofs.reading.read_all.Goals as goal

pub loop-from-preserved : goal.loop-from-preserved
loop-from-preserved g c =
    let handed : Handed = record { payloads = c.args.payloads; read = c.in_ok-read.read } in
    let more : AreHanded (map (λ p. p.now) c.args.payloads.now) (c.loop-from.from + length c.in_ok-read.read.counts.items) (sent c.hand_on.new.self.giver) =
    handed_more _ c.loop-from.from _ _ handed c.loop-from.invariant.1 (c.hand_on.ensures.sent c.if-not-hand_on.false) in
    let count : length c.in_ok-read.read.counts.items ≡ c.len.result = omega (arith, c.len.ensures, c.in_ok-read.read.counts.ok.0) in (
      omega (arith, lent_count c.args.payloads.now, c.in_ok-read.ensures.within, count),
      subst (λ (n : ℕ). AreHanded (map (λ p. p.now) c.args.payloads.now) (c.loop-from.from + n) (sent c.hand_on.new.self.giver)) count more,
    )
