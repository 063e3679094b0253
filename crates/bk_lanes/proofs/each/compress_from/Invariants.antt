use Rattle.std.proofs.Common.{◌≡◌, ℕ, [], ◌+◌, ◌<◌, ◌≤◌, length, slice_index_or}
use Rattle.bk_lanes.specs.private.Lanes.{words_of}
use Rattle.bk_lanes.proofs.each.compress_from.Given as goal

abbrev pub invariant-put : goal.invariant-put
invariant-put l =
    (length l.states ≡ length l.fn.states)
    × ((i : ℕ) → i < l.i → slice_index_or l.states (l.from + i) [] ≡ words_of i l.words)
    × ((k : ℕ) → k < l.from → slice_index_or l.states k [] ≡ slice_index_or l.fn.states k [])
    × ((k : ℕ) → l.from + l.i ≤ k → slice_index_or l.states k [] ≡ slice_index_or l.fn.states k [])
