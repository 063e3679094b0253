use Rattle.std.proofs.Common.{◌≡◌, ℕ, [], ◌<◌, length, slice_index_or}
use Rattle.sha2.specs.Sha256.{sha256}
use Rattle.bk_lanes.specs.private.Lanes.{message_of}
use Rattle.bk_lanes.proofs.many.one_by_one.Given as goal

abbrev pub invariant-each : goal.invariant-each
invariant-each l =
    (length l.out ≡ length l.messages.bytes.now) × ((j : ℕ) → j < l.k → slice_index_or l.out j [] ≡ sha256 (message_of j l.messages))
