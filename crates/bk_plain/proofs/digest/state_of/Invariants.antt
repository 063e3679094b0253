use Rattle.std.proofs.Common.{◌≡◌, map, take}
use Rattle.bk_base.specs.Genesis.{row_text}
use Rattle.bk_plain.proofs.digest.state_of.Given as goal

abbrev pub invariant-loop-row : goal.invariant-loop-row
invariant-loop-row l = l.leaves.items ≡ map row_text (take l.row-index l.rows)
