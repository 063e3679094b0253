use Rattle.std.proofs.Common.{◌≡◌, length, take}
use Rattle.bk_flatten.proofs.Parts.{IsMarked}
use Rattle.bk_flatten.proofs.part.mark.Given as goal

abbrev pub invariant-loop-c : goal.invariant-loop-c
invariant-loop-c l = record {
  same : length l.marks ≡ length l.fn.marks;
  marked : IsMarked l.fn.marks l.marks (take l.c-index l.part);
}
