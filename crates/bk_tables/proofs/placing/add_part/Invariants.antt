use Rattle.std.proofs.Common.{◌≡◌, ◌++◌, map, take}
use Rattle.bk_tables.specs.private.Placing.{placed_with}
use Rattle.bk_tables.proofs.placing.add_part.Given as goal

abbrev pub invariant-loop-cert : goal.invariant-loop-cert
invariant-loop-cert l = l.placed.items ≡ l.initial.placed.items ++ map (placed_with l.anchor) (take l.cert-index l.part)
