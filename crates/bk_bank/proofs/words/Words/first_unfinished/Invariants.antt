use Rattle.std.proofs.Common.{ℕ, ◌^◌, ◌<◌, ◌≤◌}
use Rattle.bk_bank.specs.Words.{state_at}
use Rattle.bk_bank.proofs.words.Words.first_unfinished.Given as goal

abbrev pub invariant-loop-place : goal.invariant-loop-place
invariant-loop-place l = (q : ℕ) → q < l.place → 2 ^ 63 ≤ state_at l.self q
