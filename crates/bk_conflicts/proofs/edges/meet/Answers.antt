use Rattle.bk_conflicts.specs.private.Accesses.{places_of}
use Rattle.bk_conflicts.specs.private.Trail.{IsTrail}
use Rattle.std.proofs.Common.{ℕ, length, ap, subst}
use Rattle.bk_conflicts.proofs.Counting.{counts_none}
use Rattle.bk_conflicts.proofs.First.{stands_none, trail_none}
use Rattle.bk_conflicts.proofs.edges.meet.Goals as goal

pub meet_places-requires-clause-stands : goal.meet_places-requires-clause-stands
meet_places-requires-clause-stands c = let r = c.in_ok-clear_trail.ensures in stands_none (places_of c.args.ids.now c.args.txs.now) _ c.clear_trail.new.trail r.0 r.1

pub meet_places-requires-clause-counted : goal.meet_places-requires-clause-counted
meet_places-requires-clause-counted c = counts_none (length c.args.txs.now) _ _ c.in_ok-refill_wide.ensures c.in_ok-clear_rows.ensures.1

pub meet_places-requires-clause-trail : goal.meet_places-requires-clause-trail
meet_places-requires-clause-trail c = let r = c.in_ok-clear_trail.ensures in subst (λ (n : ℕ). IsTrail n (length c.args.txs.now) c.clear_trail.new.trail) (ap length c.as_slice.ensures.all) (trail_none _ (length c.args.txs.now) c.clear_trail.new.trail r.0 r.1)
