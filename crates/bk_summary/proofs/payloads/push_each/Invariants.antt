use Rattle.std.proofs.Common.{◌≡◌, ◌++◌, take}
use Rattle.std.specs.Int.{w32, to_be_bytes}
use Rattle.std.specs.List.{flat_map}
use Rattle.bk_summary.proofs.payloads.push_each.Given as goal

abbrev pub invariant-loop-weight : goal.invariant-loop-weight
invariant-loop-weight l = l.out.items ≡ l.initial.out.items ++ flat_map (to_be_bytes w32) (take l.weight-index l.weights)
