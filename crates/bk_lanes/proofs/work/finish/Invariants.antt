use Rattle.std.proofs.Common.{◌≡◌, ℕ, ◌-◌, ◌<◌, length, slice_index}
use Rattle.bk_lanes.specs.private.Lanes.{Done, IsWorking}
use Rattle.bk_lanes.proofs.work.finish.Given as goal

abbrev pub invariant-rounds : goal.invariant-rounds
invariant-rounds l =
    (length l.out ≡ length l.messages.bytes.now)
    × ((i : ℕ) → i < 8 → IsWorking l.messages l.work i)
    × ((i : ℕ) → i < 8 → slice_index l.work.left i ≡ slice_index l.fn.work.left i - l.round)
    × ((n : ℕ) → Done l.messages l.fn.work l.fn.out n → Done l.messages l.work l.out n)
