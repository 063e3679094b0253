use Rattle.std.proofs.Common.{◌<◌, ◌≤◌, ◌⊎◌, ℕ}
use Rattle.bk_rounds.specs.Members.{Has}
use Rattle.bk_flatten.proofs.part.end_of.Given as goal

abbrev pub invariant-loop-x : goal.invariant-loop-x
invariant-loop-x l = record {
  low : l.end ≤ 128;
  few : (y : ℕ) → Has l.left y → y < 128;
  rest : (y : ℕ) → Has l.left y → l.end ≤ y;
  above : (y : ℕ) → Has l.fn.set y → (y < l.end) ⊎ Has l.left y;
}

abbrev pub decreases-loop-x : goal.decreases-loop-x
decreases-loop-x l = l.left
