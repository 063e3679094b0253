use Rattle.std.proofs.Common.{◌≡◌, ◌<◌, ◌≤◌, ◌*◌, ℕ, None, length}
use Rattle.bk_rules.specs.View.{nth, nth_id}
use Rattle.bk_conflicts.specs.SceneOf.{accounts_by}
use Rattle.bk_steps.specs.Settling.{words_before, Say}
use Rattle.bk_steps.proofs.settling.put_local.Given as goal

abbrev pub invariant-loop-k : goal.invariant-loop-k
invariant-loop-k l = record {
  at_is : l.at ≡ words_before l.ids l.declared l.k;
  at_low : l.at ≤ 2 * l.k;
  long : length l.local ≡ 8;
  found : (f : ℕ → ℕ) → Say f l.ids l.declared l.values → (j : ℕ) → j < l.k → nth l.local j ≡ accounts_by l.version l.ids f (nth_id l.declared j);
  rest : (j : ℕ) → l.k ≤ j → nth l.local j ≡ None;
}
