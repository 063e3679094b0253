use Rattle.std.proofs.Common.{◌≡◌, ℕ, ◌<◌, length, slice_index}
use Rattle.bk_lanes.specs.private.Lanes.{block_of, next_block}
use Rattle.bk_lanes.proofs.work.next_blocks.Given as goal

abbrev pub invariant-fill : goal.invariant-fill
invariant-fill l =
    (length l.blocks ≡ 8) × ((i : ℕ) → i < l.i → 0 < slice_index l.work.left i → block_of i l.blocks ≡ next_block l.messages l.work i)
