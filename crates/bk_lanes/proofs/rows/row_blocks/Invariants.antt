use Rattle.std.proofs.Common.{◌≡◌, ℕ, [], ◌∷◌, ◌+◌, ◌<◌, length, slice_index_or}
use Rattle.bk_lanes.specs.private.Lanes.{block_of, padded_block}
use Rattle.bk_lanes.proofs.rows.row_blocks.Given as goal

abbrev pub invariant-fill : goal.invariant-fill
invariant-fill g l =
    (length l.blocks ≡ 8)
    × ((i : ℕ) → i < l.i → block_of i l.blocks ≡ padded_block (l.first ∷ slice_index_or l.rows (l.from + i) []) l.at)
    × ((i : ℕ) → i < l.i → length (slice_index_or l.rows (l.from + i) []) ≡ g.row.N)
