use Rattle.std.proofs.Common.{◌≡◌, ℕ, ◌<◌, ◌≤◌, length, get_or}
use Rattle.bk_base.specs.declared.version.Version.TheVariants.{Two}
use Rattle.bk_rules.specs.private.Slots.{tidied}
use Rattle.bk_rules.proofs.Words.{blank}
use Rattle.bk_rules.proofs.numbers.tidy_all.Given as goal

abbrev pub invariant-loop-k : goal.invariant-loop-k
invariant-loop-k l = record {
  long : length l.numbers ≡ length l.fn.numbers;
  before : (i : ℕ) → i < l.k → get_or l.numbers i blank ≡ tidied Two (get_or l.fn.numbers i blank);
  after : (i : ℕ) → l.k ≤ i → get_or l.numbers i blank ≡ get_or l.fn.numbers i blank;
}
