use Rattle.std.proofs.Common.{take}
use Rattle.bk_evidence.specs.Batches.{Batch}
use Rattle.bk_diagnosis.specs.private.Colliding.{IsOtherBatch, ListsSome}
use Rattle.bk_diagnosis.proofs.colliding.add_batches.Given as goal

abbrev pub invariant-loop-index : goal.invariant-loop-index
invariant-loop-index l = ListsSome (λ (b : Batch). b.digest) (IsOtherBatch l.stored) (take l.index l.stored) l.initial.ids.items l.ids.items
