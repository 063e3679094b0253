use Rattle.std.proofs.Common.{◌≡◌, ℕ, ◌<◌, true, None, is_some, get_or}
use Rattle.bk_steps.proofs.seat.has_read_all.Given as goal

abbrev pub invariant-loop-k : goal.invariant-loop-k
invariant-loop-k l = (j : ℕ) → j < l.k → is_some (get_or l.read j None) ≡ true
