use Rattle.std.proofs.Common.{◌≡◌, ◌<◌, ◌≤◌, ℕ, None, length, get_or}
use Rattle.bk_rules.specs.View.{nth}
use Rattle.bk_rules.specs.private.Slots.{shown_at}
use Rattle.bk_rules.proofs.state.gather.Given as goal

abbrev pub invariant-loop-k : goal.invariant-loop-k
invariant-loop-k l = record {
  wide : length l.local ≡ 8;
  found : (j : ℕ) → j < l.k → nth l.local j ≡ shown_at l.version l.numbers (get_or l.places j 0);
  rest : (j : ℕ) → l.k ≤ j → nth l.local j ≡ None;
}
