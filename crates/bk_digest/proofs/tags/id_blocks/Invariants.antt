use Rattle.std.proofs.Common.{◌≡◌, ℕ, ◌+◌, ◌<◌, ◌++◌, [], length, slice_index_or}
use Rattle.sha2.specs.Sha256.{padding}
use Rattle.bk_digest.specs.declared.tags.ToTag.{ToTag}
use Rattle.bk_digest.proofs.tags.id_blocks.Given as goal

abbrev pub invariant-fill : goal.invariant-fill
invariant-fill l =
    (length l.blocks ≡ 8)
    × ((i : ℕ) → i < l.i → (d : ToTag) → slice_index_or l.blocks i [] ≡ (slice_index_or l.of (l.from + i) d).id ++ padding 96)
    × ((i : ℕ) → i < l.i → (d : ToTag) → length (slice_index_or l.of (l.from + i) d).id ≡ 32)
