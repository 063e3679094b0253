use Rattle.std.proofs.Common.{◌≡◌, suc, ◌+◌, length, arith, ap, ◌∙◌}
use Rattle.bk_lanes.specs.private.Lanes.{bytes_of}
use Rattle.bk_lanes.proofs.rows.row_blocks.Goals as goal

pub put_block-requires : goal.put_block-requires
put_block-requires g c =
    let long : length (bytes_of c.row_at.result) ≡ g.row.N + 1 = ap length c.row_at.ensures.bytes ∙ ap suc c.row_at.ensures.sized ∙ (omega arith) in
    rw long c.requires.at
