-- What is true of the fields of closed words.
use Rattle.std.specs.Prelude.{◌≡◌, ℕ, ◌+◌, ◌*◌, ◌^◌, ◌<◌}

-- so many words and slots are those of an execution
pub record IsClosed (count slots words places : ℕ) : Type 0 where
  pub wide : count ≡ words + (2 * places + 1)
  pub none : slots ≡ 0
  pub few_words : words < 2 ^ 32
  pub few_places : places < 2 ^ 31
