use Rattle.bk_evidence.specs.Collisions.{id_cmp}
use Rattle.bk_evidence.specs.private.Named.{CollidesWith}
use Rattle.bk_evidence.specs.private.Least.{IsLeastBy}
use Rattle.bk_evidence.proofs.batches.least_across.Given as goal

abbrev pub invariant-loop-batch : goal.invariant-loop-batch
invariant-loop-batch l = IsLeastBy id_cmp (CollidesWith l.stored l.more l.batch-index) l.least
