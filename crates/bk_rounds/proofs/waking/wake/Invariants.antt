use Rattle.std.proofs.Common.{◌≡◌, ◌≤◌, ◌+◌, vec_len, vec_capacity}
use Rattle.bk_rounds.specs.private.Numbered.{IsSound, Extends, count_unmarked}
use Rattle.bk_rounds.proofs.Woken.{IsCovered}
use Rattle.bk_rounds.proofs.waking.wake.Given as goal

abbrev pub invariant-loop-k : goal.invariant-loop-k
invariant-loop-k l = record {
  room : vec_len l.out + count_unmarked l.marks ≤ vec_capacity l.out;
  steps : vec_len l.out + count_unmarked l.marks ≡ vec_len l.fn.out + count_unmarked l.fn.marks;
  sound : IsSound l.weights l.slots l.marks;
  more : Extends l.fn.marks l.marks l.fn.out.items l.out.items;
  covered : IsCovered l.weights l.slots l.fn.marks l.marks l.woken l.k-index;
}
