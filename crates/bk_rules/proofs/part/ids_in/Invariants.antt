use Rattle.std.proofs.Common.{◌≡◌, map, take, get_or}
use Rattle.bk_rules.proofs.part.ids_in.Given as goal

abbrev pub invariant-loop-index : goal.invariant-loop-index
invariant-loop-index l = l.some.items ≡ map (λ k. get_or l.ids k 0) (take l.index-index l.list)
