-- The opening words, as they are laid.
use Rattle.std.specs.Prelude.{◌≡◌, ℕ, ◌+◌, ◌*◌, ◌<◌, List, length, slice_index}
use Rattle.bk_rules.specs.Ledger.{Ledger, slot_numbers}
use Rattle.bk_conflicts.specs.SceneOf.{in_words}
use Rattle.bk_conflicts.specs.Plan.{PlanValue, before_of}

-- those of the accounts, and those of the first n places
pub record Laid (plan : PlanValue) (ledger : Ledger) (words : List ℕ) (n : ℕ) : Type 0 where
  pub wide : length words ≡ 2 * length plan.ids + 2 * n
  pub values : (x : ℕ) → x < 2 * length plan.ids → slice_index words x ≡ slice_index (in_words (slot_numbers ledger)) x
  pub counts : (q : ℕ) → q < n → slice_index words (2 * length plan.ids + 2 * q) ≡ before_of plan q
