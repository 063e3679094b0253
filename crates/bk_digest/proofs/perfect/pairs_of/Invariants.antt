use Rattle.std.proofs.Common.{◌≡◌, ℕ, ◌+◌, ◌*◌, ◌<◌, ◌++◌, [], length, slice_index_or}
use Rattle.bk_digest.proofs.perfect.pairs_of.Given as goal

abbrev pub invariant-pair : goal.invariant-pair
invariant-pair l =
    (length l.pairs ≡ 32)
    × ((i : ℕ) → i < l.i → slice_index_or l.pairs i [] ≡ slice_index_or l.hashes (2 * i) [] ++ slice_index_or l.hashes (2 * i + 1) [])
