use Rattle.std.proofs.Common.{ℕ, take}
use Rattle.std.specs.Prelude.{◌↔◌}
use Rattle.bk_rounds.specs.Members.{Has}
use Rattle.bk_diagnosis.specs.private.Graph.{MadeOneOf}
use Rattle.bk_diagnosis.proofs.graph.Graph.authors_of.Given as goal

abbrev pub invariant-loop-parent : goal.invariant-loop-parent
invariant-loop-parent l = (x : ℕ) → Has l.authors x ↔ MadeOneOf l.self.certs (take l.parent-index l.parents) x
