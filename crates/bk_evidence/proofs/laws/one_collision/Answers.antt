use Rattle.bk_cert.specs.Node.{Node}
use Rattle.bk_evidence.specs.Batches.{Batch}
use Rattle.bk_evidence.proofs.Lawful.{collision_is_one}
use Rattle.bk_evidence.proofs.laws.one_collision.Goals as goal

pub returns : goal.returns
returns c = (collision_is_one (λ (d : Node). d.id), collision_is_one (λ (b : Batch). b.digest))
