use Rattle.std.proofs.Common.{◌≡◌, ℕ, [], ◌+◌, ◌<◌, length, slice_index_or}
use Rattle.bk_lanes.proofs.each.eight_blocks.Given as goal

abbrev pub invariant-fill : goal.invariant-fill
invariant-fill l =
    (length l.eight ≡ 8)
    × ((i : ℕ) → i < l.i → slice_index_or l.eight i [] ≡ slice_index_or l.blocks (l.from + i) [])
