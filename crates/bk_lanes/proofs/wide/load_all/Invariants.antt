use Rattle.std.proofs.Common.{◌≡◌, ℕ, ◌<◌, ◌*◌, length, slice_index}
use Rattle.sha2.specs.Sha256.{word_at}
use Rattle.bk_lanes.specs.private.Lanes.{block_of, column}
use Rattle.bk_lanes.proofs.wide.load_all.Given as goal

abbrev pub invariant-load : goal.invariant-load
invariant-load l =
    (length l.w ≡ 16)
    × ((i : ℕ) → i < 8 → (k : ℕ) → k < l.t → slice_index (column i l.w) k ≡ word_at (block_of i l.blocks) (4 * k))
