use Rattle.std.proofs.Common.{◌∙◌, arith}
use Rattle.bk_lanes.proofs.rows.rows_from.Goals as goal

pub returns-clause-these : goal.returns-clause-these
returns-clause-these g c = λ i lt le. c.put.invariant.1 i (omega arith) ∙ c.hashed_from-state.ensures i lt le
