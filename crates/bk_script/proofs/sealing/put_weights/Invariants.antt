use Rattle.std.proofs.Common.{◌≡◌, ◌++◌, drop}
use Rattle.std.specs.List.{flat_map}
use Rattle.std.specs.Int.{w32, to_be_bytes}
use Rattle.bk_script.proofs.sealing.put_weights.Given as goal

abbrev pub invariant-loop-weight : goal.invariant-loop-weight
invariant-loop-weight l = l.out.items ++ flat_map (to_be_bytes w32) (drop l.weight-index l.weights) ≡ l.initial.out.items ++ flat_map (to_be_bytes w32) l.weights
