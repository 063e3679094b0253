use Rattle.std.proofs.Common.{◌≡◌, ℕ, true, is_some, take}
use Rattle.std.specs.List.{list_all}
use Rattle.bk_rules.specs.View.{nth}
use Rattle.bk_rules.proofs.rule.all_there.Given as goal

abbrev pub invariant-loop-k : goal.invariant-loop-k
invariant-loop-k l = list_all (λ (k : ℕ). is_some (nth l.local k)) (take l.k-index l.places) ≡ true
