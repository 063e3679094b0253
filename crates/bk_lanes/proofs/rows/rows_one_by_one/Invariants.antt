use Rattle.std.proofs.Common.{◌≡◌, ℕ, [], ◌∷◌, ◌<◌, length, slice_index_or}
use Rattle.sha2.specs.Sha256.{sha256}
use Rattle.bk_lanes.proofs.rows.rows_one_by_one.Given as goal

abbrev pub invariant-each : goal.invariant-each
invariant-each g l =
    (length l.out ≡ length l.rows)
    × ((j : ℕ) → j < l.k → j < length l.rows → slice_index_or l.out j [] ≡ sha256 (l.first ∷ slice_index_or l.rows j []))
