use Rattle.std.proofs.Common.{◌≡◌, ℕ, ◌^◌, ◌≤◌, length, take}
use Rattle.std.specs.Int.{IsPowerOfTwo}
use Rattle.bk_digest.specs.Tree.{root_of}
use Rattle.bk_digest.specs.private.Levels.{top_of}
use Rattle.bk_digest.proofs.perfect.perfect_root.Given as goal

abbrev pub invariant-levels : goal.invariant-levels
invariant-levels g l =
    (length l.hashes ≡ 64)
    × (l.count ≤ 64)
    × IsPowerOfTwo l.count
    × ((k : ℕ) → l.count ≡ 2 ^ k → root_of l.leaves ≡ top_of k (take l.count l.hashes))

abbrev pub decreases-levels : goal.decreases-levels
decreases-levels g l = l.count
