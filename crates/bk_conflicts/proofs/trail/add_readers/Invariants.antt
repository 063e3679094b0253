use Rattle.std.proofs.Common.{◌≡◌, ℕ, ◌<◌, List, length}
use Rattle.bk_conflicts.specs.private.Rows.{AreCounts}
use Rattle.bk_conflicts.specs.private.Trail.{Linked, IsRow, all_once}
use Rattle.bk_conflicts.proofs.trail.add_readers.Given as goal

abbrev pub invariant-loop-at : goal.invariant-loop-at
invariant-loop-at l = record {
  inside : l.at < length l.readers;
  counted : AreCounts l.counts l.found.items;
  rest : (before row ps : List ℕ) → Linked l.readers l.fn.newest ps → IsRow l.mark before row l.fn.stamp l.fn.found.items
      → (qs now : List ℕ) × Linked l.readers l.at qs × IsRow l.mark before now l.stamp l.found.items × (all_once row ps ≡ all_once now qs);
}

abbrev pub decreases-loop-at : goal.decreases-loop-at
decreases-loop-at l = l.at
