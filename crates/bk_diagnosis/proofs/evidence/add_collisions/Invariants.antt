use Rattle.std.proofs.Common.{◌≡◌, ◌++◌, map, take}
use Rattle.bk_diagnosis.specs.declared.line.Line.TheVariants as line
use Rattle.bk_diagnosis.proofs.evidence.add_collisions.Given as goal

abbrev pub invariant-loop-id : goal.invariant-loop-id
invariant-loop-id l = l.lines.items ≡ l.initial.lines.items ++ map line.Collision (take l.id-index l.ids)
