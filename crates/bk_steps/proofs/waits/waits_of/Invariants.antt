use Rattle.std.proofs.Common.{◌≡◌, ℕ, ◌<◌, length, get_or}
use Rattle.bk_conflicts.specs.Plan.{before_of}
use Rattle.bk_steps.proofs.waits.waits_of.Given as goal

abbrev pub invariant-loop-place : goal.invariant-loop-place
invariant-loop-place l = record {
  long : length l.waits.items ≡ l.place;
  each : (q : ℕ) → q < l.place → get_or l.waits.items q 0 ≡ before_of l.plan q;
}
