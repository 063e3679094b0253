use Rattle.std.proofs.Common.{◌≡◌, ◌+◌, ℕ, length, map, sym, subst, ◌∙◌, arith}
use Rattle.bk_ledger.specs.private.Slices.{IsOnTheWay}
use Rattle.bk_ledger.proofs.SliceLemmas.{lent_count, room_for_slice, way_goes_on}
use Rattle.bk_ledger.proofs.ledger.Ledger.execute_read.Goals as goal

pub run_turn-requires-clause-room : goal.run_turn-requires-clause-room
run_turn-requires-clause-room g c = λ _ _. room_for_slice _ _ _ _ c.args.self c.loop-from.ledger c.loop-from.invariant.way c.loop-from.invariant.next.slice c.requires.room

pub loop-from-preserved : goal.loop-from-preserved
loop-from-preserved g c =
    let next = c.loop-from.invariant.next in
    let len : c.len.result ≡ length c.loop-from.next.counts.items = c.len.ensures ∙ c.loop-from.next.counts.ok.0 in
    record {
      within = omega (arith, next.within, len, lent_count c.args.payloads.now);
      way = subst (λ (n : ℕ). IsOnTheWay (map (λ p. p.now) c.args.payloads.now) (c.loop-from.from + n) c.args.self c.in_ok-after.after) (sym len)
          (way_goes_on _ _ _ _ c.args.self c.loop-from.ledger c.in_ok-after.after c.loop-from.invariant.way next.slice c.in_ok-after.ensures.ran);
      next = c.in_ok-after.ensures.read;
    }
