use Rattle.bk_evidence.proofs.Across.{across_first, across_told}
use Rattle.bk_evidence.proofs.batches.Batches.collision_with.Goals as goal

pub least_across-requires : goal.least_across-requires
least_across-requires c = rw (c.lesser_id-known.ensures, c.as_slice.ensures)
    (across_first c.self.inside.stored c.other.inside.stored c.self.inside.collision c.other.inside.collision c.self.invariant c.other.invariant)

pub returns-clause-found : goal.returns-clause-found
returns-clause-found c = rw (← c.self.view_is, ← c.other.view_is)
    (across_told c.self.inside.stored c.other.inside.stored c.least_across.result (rw c.as_slice.ensures at c.least_across.ensures))
