use Rattle.std.proofs.Common.{◌≡◌, ℕ, [], ◌∷◌, ◌+◌, ◌<◌, length, slice_index_or}
use Rattle.bk_lanes.specs.private.Lanes.{hash_at, words_of}
use Rattle.bk_lanes.proofs.rows.hashed_from.Given as goal

abbrev pub invariant-through : goal.invariant-through
invariant-through g l =
    ((i : ℕ) → i < 8 → l.from + i < length l.rows
    → words_of i l.state ≡ hash_at (l.first ∷ slice_index_or l.rows (l.from + i) []) l.at)
    × (0 < l.at → (i : ℕ) → i < 8 → l.from + i < length l.rows → length (slice_index_or l.rows (l.from + i) []) ≡ g.row.N)
