-- Each slice that is read is the next.
use Rattle.std.proofs.Common.{◌+◌, ℕ, map, refl, sym, subst, ◌∙◌, arith}
use Rattle.std.proofs.lemmas.Result.{err_from_is_err_and}
use Rattle.bk_ledger.specs.private.Slices.{IsOnTheWay}
use Rattle.bk_ledger.proofs.Covering.{never_lacks}
use Rattle.bk_ledger.proofs.NextLemmas.{next_from}
use Rattle.bk_ledger.proofs.SliceLemmas.{leaves_weaker, lent_count, places_within, room_for_slice, way_begins, way_goes_on}
use Rattle.bk_ledger.proofs.ledger.Ledger.run_alone.Goals as goal

pub loop-from-init : goal.loop-from-init
loop-from-init g c = record { way = way_begins _ _; slots = refl; within = omega arith }

pub run_next-requires-clause-room : goal.run_next-requires-clause-room
run_next-requires-clause-room g c =
    let n = next_from _ c.loop-from.from _ _ c.in_ok-read.read c.in_ok-next.next c.in_ok-read.ensures c.in_ok-next.ensures in
    λ _ _. room_for_slice _ _ _ _ c.args.self c.loop-from.ledger c.loop-from.invariant.way n.read.slice c.requires.room

pub run_next-requires-clause-places : goal.run_next-requires-clause-places
run_next-requires-clause-places g c =
    let n = next_from _ c.loop-from.from _ _ c.in_ok-read.read c.in_ok-next.next c.in_ok-read.ensures c.in_ok-next.ensures in
    let within = places_within _ _ _ _ c.args.self c.loop-from.ledger c.loop-from.invariant.way n.read.slice in
    omega (arith, within.1, c.requires.few)

pub returns-in_err-after : goal.returns-in_err-after
returns-in_err-after g c =
    let n = next_from _ c.loop-from.from _ _ c.in_ok-read.read c.in_ok-next.next c.in_ok-read.ensures c.in_ok-next.ensures in
    let within = places_within _ _ _ _ c.args.self c.loop-from.ledger c.loop-from.invariant.way n.read.slice in
    let p = err_from_is_err_and c.from_residual-in_err-after.result c.from_residual-in_err-after.ensures.1 in
    rw (p.1, p.2) (record {
      ran = tt;
      slots = tt;
      within = tt;
      all = λ _. tt;
      fault = leaves_weaker _ _ _ _ _ within.0 within.1 c.in_err-after.ensures.fault;
    })

pub returns-then-not-is_plannable : goal.returns-then-not-is_plannable
returns-then-not-is_plannable g c =
    let n = next_from _ c.loop-from.from _ _ c.in_ok-read.read c.in_ok-next.next c.in_ok-read.ensures c.in_ok-next.ensures in
    let invariant = c.loop-from.invariant in
    record {
      ran = invariant.way;
      slots = invariant.slots;
      within = omega (arith, invariant.within, lent_count c.args.payloads.now);
      all = λ covered. absurd (never_lacks _ _ c.args.self c.loop-from.ledger c.in_ok-next.next n.read.slice invariant.way.ran.version invariant.slots
          (sym (rw c.state-in-loop-from.ensures at c.is_plannable.ensures) ∙ c.if-not-is_plannable.true) covered);
      fault = tt;
    }

pub loop-from-preserved : goal.loop-from-preserved
loop-from-preserved g c =
    let n = next_from _ c.loop-from.from _ _ c.in_ok-read.read c.in_ok-next.next c.in_ok-read.ensures c.in_ok-next.ensures in
    let count = sym c.in_ok-after.ensures.count in
    record {
      way = subst (λ (k : ℕ). IsOnTheWay (map (λ p. p.now) c.args.payloads.now) (c.loop-from.from + k) c.args.self c.in_ok-after.after) count
          (way_goes_on _ _ _ _ c.args.self c.loop-from.ledger c.in_ok-after.after c.loop-from.invariant.way n.read.slice c.in_ok-after.ensures.ran);
      slots = c.in_ok-after.ensures.slots ∙ c.loop-from.invariant.slots;
      within = omega (arith, c.in_ok-after.ensures.count, n.read.within, lent_count c.args.payloads.now);
    }
