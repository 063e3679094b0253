use Rattle.bk_evidence.specs.Batches.{Batch}
use Rattle.bk_evidence.proofs.Colliding.{told}
use Rattle.bk_evidence.proofs.Payloads.{same_batch}
use Rattle.bk_evidence.proofs.batches.Batches.collision.Goals as goal

pub returns : goal.returns
returns c = rw (← c.self.view_is) (told (λ (b : Batch). b.digest) same_batch c.self.inside.stored c.self.inside.collision c.self.invariant)
