use Rattle.std.proofs.Common.{◌≡◌, ◌<◌, ◌≤◌, ◌*◌, ℕ, length, get_or}
use Rattle.bk_rules.specs.Rule.{Accounts}
use Rattle.bk_conflicts.specs.SceneOf.{word_by}
use Rattle.bk_steps.specs.Settling.{words_before, word_in, AreOf}
use Rattle.bk_steps.proofs.settling.put_accounts.Given as goal

abbrev pub invariant-loop-k : goal.invariant-loop-k
invariant-loop-k l = record {
  at_is : l.at ≡ words_before l.ids l.declared l.k;
  at_low : l.at ≤ 2 * l.k;
  long : length l.values ≡ length l.fn.values;
  so_far : (accounts : Accounts) → AreOf accounts l.declared l.local → (i : ℕ) → i < l.at → get_or l.values i 0 ≡ word_by l.ids accounts (word_in l.ids l.declared i);
}
