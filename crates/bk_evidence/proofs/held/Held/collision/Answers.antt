use Rattle.bk_cert.specs.Node.{Node}
use Rattle.bk_evidence.proofs.Colliding.{told}
use Rattle.bk_evidence.proofs.Judging.{same_cert}
use Rattle.bk_evidence.proofs.held.Held.collision.Goals as goal

pub returns : goal.returns
returns c = rw (← c.self.view_is) (told (λ (d : Node). d.id) same_cert c.self.inside.certs c.self.inside.collision c.self.invariant.0)
