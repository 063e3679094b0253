use Rattle.std.proofs.Common.{◌≡◌, ℕ, ◌+◌, ◌<◌, List, length, take}
use Rattle.bk_conflicts.specs.private.Accesses.{Places}
use Rattle.bk_conflicts.specs.private.Accesses.{IsAscending}
use Rattle.bk_conflicts.specs.private.Rows.{AreCounts}
use Rattle.bk_conflicts.specs.private.Trail.{IsTrail, Shows, Stands, IsRow, all_once, gathered, readers_in, writer_in}
use Rattle.bk_conflicts.proofs.trail.meet_all.Given as goal

abbrev pub invariant-loop-x : goal.invariant-loop-x
invariant-loop-x l = record {
  wide : length l.trail.last.items ≡ length l.fn.trail.last.items;
  safe : IsTrail (length l.trail.last.items) (length l.stamp) l.trail;
  counted : AreCounts l.counts l.found.items;
  so_far : (t : Places) (before row : List ℕ) → t l.q ≡ l.xs → IsAscending l.xs → Stands t l.q l.fn.trail → IsRow (l.q + 1) before row l.fn.stamp l.fn.found.items
      → ((a : ℕ) → a < length l.trail.last.items → Shows l.trail a (readers_in t l.q (take l.x-index l.xs) a) (writer_in t l.q (take l.x-index l.xs) a))
      × IsRow (l.q + 1) before (all_once row (gathered t l.q (take l.x-index l.xs))) l.stamp l.found.items;
}
