use Rattle.std.proofs.Common.{◌≡◌, ℕ, ◌+◌, ◌≤◌, length, sum, take, slice_index_or}
use Rattle.bk_conflicts.proofs.rows.sums.Given as goal

abbrev pub invariant-loop-n : goal.invariant-loop-n
invariant-loop-n l = record {
  so_far : length l.starts.items ≡ l.n-index + 1;
  total_is : l.total ≡ sum (take l.n-index l.counts);
  each_one : (p : ℕ) → p ≤ l.n-index → slice_index_or l.starts.items p 0 ≡ sum (take p l.counts);
}
