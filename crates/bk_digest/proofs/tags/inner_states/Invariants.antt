use Rattle.std.proofs.Common.{◌≡◌, ℕ, ◌+◌, ◌<◌, [], length, slice_index_or}
use Rattle.bk_digest.specs.declared.tags.ToTag.{ToTag}
use Rattle.bk_digest.proofs.tags.inner_states.Given as goal

abbrev pub invariant-fill : goal.invariant-fill
invariant-fill l =
    (length l.states ≡ 8)
    × ((i : ℕ) → i < l.i → (d : ToTag) → slice_index_or l.states i [] ≡ (slice_index_or l.of (l.from + i) d).key.now.inner_state)
