use Rattle.std.proofs.Common.{◌≡◌, ◌+◌, ◌<◌, ◌++◌, drop, take}
use Rattle.std.specs.List.{sum_by}
use Rattle.arrayvec.specs.ArrayVec.{array_vec_len}
use Rattle.bk_cli.specs.Pieces.{room, said}
use Rattle.bk_cli.proofs.line.short_line.Given as goal

abbrev pub invariant-loop-piece : goal.invariant-loop-piece
invariant-loop-piece l =
    (l.line.items ≡ l.lead ++ said (take l.piece-index l.pieces))
    × (array_vec_len l.line + sum_by room (drop l.piece-index l.pieces) < 192)
