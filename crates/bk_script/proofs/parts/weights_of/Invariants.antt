use Rattle.std.proofs.Common.{◌≡◌, ◌^◌, ◌&&◌, drop, take, nat_lt}
use Rattle.std.specs.List.{list_all}
use Rattle.bk_script.proofs.parts.weights_of.Given as goal

abbrev pub invariant-loop-weight : goal.invariant-loop-weight
invariant-loop-weight l = record {
  same : l.weights.items ≡ take l.weight-index l.listed;
  test : list_all (λ w. nat_lt 0 w && nat_lt w (2 ^ 32)) (drop l.weight-index l.listed) ≡ list_all (λ w. nat_lt 0 w && nat_lt w (2 ^ 32)) l.listed;
}
