use Rattle.std.proofs.Common.{◌≡◌, take}
use Rattle.bk_conflicts.specs.SceneOf.{in_words}
use Rattle.bk_steps.proofs.machine.opening_words.Given as goal

abbrev pub invariant-loop-account : goal.invariant-loop-account
invariant-loop-account l = l.words.items ≡ in_words (take l.account-index l.numbers)
