use Rattle.bk_cert.specs.Node.{Node}
use Rattle.bk_evidence.proofs.Colliding.{least_none}
use Rattle.bk_evidence.proofs.Judging.{places_none}
use Rattle.bk_evidence.proofs.held.Held.new.Goals as goal

pub invariant_of-result : goal.invariant_of-result
invariant_of-result c = rw c.new.ensures (least_none (λ (d : Node). d.id), places_none c.new-2.result c.new-2.ensures)
