use Rattle.std.proofs.Common.{◌≡◌, ◌<◌, ℕ, length, get_or}
use Rattle.bk_rules.specs.View.{nth_id}
use Rattle.bk_rules.specs.private.Slots.{index_or_len}
use Rattle.bk_rules.proofs.state.find_places.Given as goal

abbrev pub invariant-loop-k : goal.invariant-loop-k
invariant-loop-k l = record {
  long : length l.places ≡ 8;
  found : (j : ℕ) → j < l.k → get_or l.places j 0 ≡ index_or_len l.ids (nth_id l.declared j);
}
