use Rattle.std.proofs.Common.{take}
use Rattle.bk_diagnosis.specs.private.Graph.{HasParentLines}
use Rattle.bk_diagnosis.proofs.graph.Graph.push_parents.Given as goal

abbrev pub invariant-loop-parent : goal.invariant-loop-parent
invariant-loop-parent l = HasParentLines l.self l.cert (take l.parent-index l.parent-items) l.initial.lines.items l.lines.items
