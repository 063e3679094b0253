use Rattle.std.proofs.Common.{◌≡◌, ℕ, ◌<◌, ◌≤◌, slice_index_or, length}
use Rattle.bk_conflicts.specs.Conflicts.{declared_at}
use Rattle.bk_conflicts.specs.Words.{words_at}
use Rattle.bk_conflicts.specs.Plan.{AreDeclared}
use Rattle.bk_conflicts.specs.private.Accesses.{places_of}
use Rattle.bk_conflicts.specs.private.Rows.{AreCounts, IsRows}
use Rattle.bk_conflicts.specs.private.Trail.{IsTrail, Stands, direct}
use Rattle.bk_conflicts.proofs.edges.meet_places.Given as goal

abbrev pub invariant-loop-q : goal.invariant-loop-q
invariant-loop-q l = record {
  wide : length l.kept.trail.last.items ≡ length l.ids;
  long : length l.kept.stamp.items ≡ length l.txs;
  safe : IsTrail (length l.ids) (length l.txs) l.kept.trail;
  stands : Stands (places_of l.ids l.txs) l.q l.kept.trail;
  many : length l.kept.counts.items ≡ length l.txs;
  counted : AreCounts l.kept.counts.items l.kept.earlier.items.items;
  low : (p : ℕ) → p < length l.kept.stamp.items → slice_index_or l.kept.stamp.items p 0 ≤ l.q;
  worded : IsRows (words_at l.ids l.txs) l.q l.words.start.items l.words.items.items;
  met : IsRows (direct (places_of l.ids l.txs)) l.q l.kept.earlier.start.items l.kept.earlier.items.items;
  declared : (k : ℕ) → k < l.q → AreDeclared (declared_at l.txs k);
}
