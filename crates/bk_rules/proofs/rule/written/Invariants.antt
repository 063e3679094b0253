use Rattle.std.proofs.Common.{◌≡◌, ◌<◌, ◌≤◌, ℕ, None, cond, length}
use Rattle.bk_rules.specs.View.{nth, is_writable}
use Rattle.bk_rules.proofs.rule.written.Given as goal

abbrev pub invariant-loop-k : goal.invariant-loop-k
invariant-loop-k l = record {
  wide : length l.writes ≡ 8;
  so_far : (j : ℕ) → j < l.k → nth l.writes j ≡ cond (is_writable l.declared j) (nth l.local j) None;
  rest : (j : ℕ) → l.k ≤ j → nth l.writes j ≡ None;
}
