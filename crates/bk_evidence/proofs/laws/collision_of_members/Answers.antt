use Rattle.bk_cert.specs.Node.{Node}
use Rattle.bk_evidence.specs.Batches.{Batch}
use Rattle.bk_evidence.proofs.Members.{collision_same, no_collision_same}
use Rattle.bk_evidence.proofs.laws.collision_of_members.Goals as goal

pub returns : goal.returns
returns c = (
  λ xs ys same. (collision_same (λ (d : Node). d.id) xs ys same, no_collision_same (λ (d : Node). d.id) xs ys same),
  λ xs ys same. (collision_same (λ (b : Batch). b.digest) xs ys same, no_collision_same (λ (b : Batch). b.digest) xs ys same),
)
