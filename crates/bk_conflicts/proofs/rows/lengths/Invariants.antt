use Rattle.std.proofs.Common.{◌≡◌, ℕ, ◌+◌, ◌-◌, ◌<◌, length, slice_index_or}
use Rattle.bk_conflicts.proofs.rows.lengths.Given as goal

abbrev pub invariant-loop-q : goal.invariant-loop-q
invariant-loop-q l = record {
  so_far : length l.all.items ≡ l.q;
  each_one : (p : ℕ) → p < l.q → slice_index_or l.all.items p 0 ≡ slice_index_or l.start (p + 1) 0 - slice_index_or l.start p 0;
}
