use Rattle.std.proofs.Common.{◌≡◌, ℕ, ◌<◌, length, slice_index}
use Rattle.bk_lanes.specs.private.Lanes.{Done, IsWorking}
use Rattle.bk_lanes.proofs.many.side_by_side.Given as goal

abbrev pub invariant-messages : goal.invariant-messages
invariant-messages l =
    (length l.out ≡ length l.messages.bytes.now) × ((i : ℕ) → i < 8 → IsWorking l.messages l.work i) × Done l.messages l.work l.out l.k

abbrev pub invariant-rest : goal.invariant-rest
invariant-rest l =
    (length l.out ≡ length l.messages.bytes.now) × ((i : ℕ) → i < 8 → IsWorking l.messages l.work i) × Done l.messages l.work l.out (length l.messages.bytes.now)
    × ((i : ℕ) → i < l.lane → slice_index l.work.left i ≡ 0)
