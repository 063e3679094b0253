use Rattle.std.proofs.Common.{◌≡◌, ℕ, ◌-◌, ◌<◌, ◌≤◌, length, slice_index}
use Rattle.bk_lanes.specs.private.Lanes.{Done, HasTaken, IsWorking}
use Rattle.bk_lanes.proofs.work.advance.Given as goal

abbrev pub invariant-count : goal.invariant-count
invariant-count l =
    (length l.out ≡ length l.messages.bytes.now)
    × ((i : ℕ) → i < l.lane → IsWorking l.messages l.work i × (slice_index l.work.left i ≡ slice_index l.initial.work.left i - 1))
    × ((i : ℕ) → l.lane ≤ i → i < 8 → HasTaken l.messages l.work i 1 × (slice_index l.work.left i ≡ slice_index l.initial.work.left i))
    × ((n : ℕ) → Done l.messages l.fn.work l.fn.out n → Done l.messages l.work l.out n)
