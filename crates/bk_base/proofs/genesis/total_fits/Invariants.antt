use Rattle.std.proofs.Common.{◌≡◌, ◌+◌, ◌^◌, take}
use Rattle.bk_base.specs.Genesis.{total_of}
use Rattle.bk_base.proofs.genesis.total_fits.Given as goal

abbrev pub invariant-loop-row : goal.invariant-loop-row
invariant-loop-row l = l.left + total_of (take l.row-index l.rows) + 1 ≡ 2 ^ 63
