use Rattle.std.proofs.Common.{take}
use Rattle.bk_diagnosis.specs.private.Colliding.{HasEach}
use Rattle.bk_diagnosis.proofs.colliding.index_by_id.Given as goal

abbrev pub invariant-loop-index : goal.invariant-loop-index
invariant-loop-index l = HasEach (take l.index l.certs) l.firsts
