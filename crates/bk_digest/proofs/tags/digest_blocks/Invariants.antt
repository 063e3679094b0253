use Rattle.std.proofs.Common.{◌≡◌, ℕ, ◌<◌, ◌++◌, [], length, slice_index_or}
use Rattle.sha2.specs.Sha256.{digest_bytes, padding}
use Rattle.bk_digest.proofs.tags.digest_blocks.Given as goal

abbrev pub invariant-fill : goal.invariant-fill
invariant-fill l =
    (length l.blocks ≡ 8)
    × ((i : ℕ) → i < l.i → slice_index_or l.blocks i [] ≡ digest_bytes (slice_index_or l.states i []) 8 ++ padding 96)
