use Rattle.std.proofs.Common.{◌≡◌, ℕ, ◌<◌, None, unwrap_or, length, get_or}
use Rattle.bk_steps.proofs.seat.values_of.Given as goal

abbrev pub invariant-loop-k : goal.invariant-loop-k
invariant-loop-k l = record {
  long : length l.values ≡ 16;
  so_far : (j : ℕ) → j < l.k → get_or l.values j 0 ≡ unwrap_or (get_or l.read j None) 0;
}
