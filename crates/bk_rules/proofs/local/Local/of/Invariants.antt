use Rattle.std.proofs.Common.{◌≡◌, ◌<◌, ℕ, length}
use Rattle.bk_rules.specs.View.{nth}
use Rattle.bk_rules.proofs.local.Local.of.Given as goal

abbrev pub invariant-loop-k : goal.invariant-loop-k
invariant-loop-k l = record {
  wide : length l.local ≡ 8;
  so_far : (j : ℕ) → j < l.k → nth l.local j ≡ nth l.view j;
}
