use Rattle.std.proofs.Common.{◌≡◌, ℕ, [], ◌+◌, ◌<◌, length, slice_index_or}
use Rattle.sha2.specs.Sha256.{digest_bytes}
use Rattle.bk_lanes.specs.private.Lanes.{words_of}
use Rattle.bk_lanes.proofs.rows.rows_from.Given as goal

abbrev pub invariant-put : goal.invariant-put
invariant-put g l =
    (length l.out ≡ length l.rows)
    × ((i : ℕ) → i < l.i → slice_index_or l.out (l.from + i) [] ≡ digest_bytes (words_of i l.state) 8)
    × ((k : ℕ) → k < l.from → slice_index_or l.out k [] ≡ slice_index_or l.fn.out k [])
