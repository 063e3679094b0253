use Rattle.std.proofs.Common.{ℕ, ◌<◌, ◌*◌}
use Rattle.sha2.specs.Sha256.{IsRoundsAt}
use Rattle.bk_lanes.specs.private.Lanes.{block_of, column, words_of}
use Rattle.bk_lanes.proofs.wide.compress.Given as goal

abbrev pub invariant-schedule : goal.invariant-schedule
invariant-schedule l = (i : ℕ) → i < 8 → IsRoundsAt (block_of i l.blocks) (words_of i l.state) (column i l.w) (words_of i l.v) (16 * l.turn)
