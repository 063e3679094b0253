use Rattle.std.proofs.Common.{◌≡◌, ℕ, ◌<◌, ◌≤◌, length, get_or}
use Rattle.std.specs.Prelude.{bit_xor}
use Rattle.bk_digest.proofs.mac.padded.Given as goal

abbrev pub invariant-loop-byte : goal.invariant-loop-byte
invariant-loop-byte l =
    (length l.byte-items ≡ length l.block)
    × ((k : ℕ) → k < l.byte-index → get_or l.byte-items k 0 ≡ bit_xor (get_or l.block k 0) l.pad)
    × ((k : ℕ) → l.byte-index ≤ k → get_or l.byte-items k 0 ≡ get_or l.block k 0)
