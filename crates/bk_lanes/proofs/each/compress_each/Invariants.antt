use Rattle.std.proofs.Common.{◌≡◌, ℕ, [], ◌*◌, ◌<◌, ◌≤◌, length, slice_index_or}
use Rattle.sha2.specs.Sha256.{compress}
use Rattle.bk_lanes.proofs.each.compress_each.Given as goal

abbrev pub invariant-groups : goal.invariant-groups
invariant-groups l =
    (length l.states ≡ length l.fn.states)
    × ((k : ℕ) → k < 8 * l.group → k < length l.fn.states
    → slice_index_or l.states k [] ≡ compress (slice_index_or l.fn.states k []) (slice_index_or l.blocks k []))
    × ((k : ℕ) → 8 * l.group ≤ k → slice_index_or l.states k [] ≡ slice_index_or l.fn.states k [])
