use Rattle.std.proofs.Common.{◌≡◌, ◌≤◌, ◌+◌, ◌-◌, vec_len, vec_capacity}
use Rattle.bk_rounds.specs.private.Numbered.{Extends, IsSettling, count_unmarked}
use Rattle.bk_rounds.proofs.waking.settle.Given as goal

abbrev pub invariant-loop-next : goal.invariant-loop-next
invariant-loop-next l = record {
  room : vec_len l.out + count_unmarked l.marks ≤ vec_capacity l.out;
  steps : vec_len l.out + count_unmarked l.marks ≡ vec_len l.fn.out + count_unmarked l.fn.marks;
  low : l.next ≤ vec_len l.out;
  more : Extends l.fn.marks l.marks l.fn.out.items l.out.items;
  state : IsSettling l.weights l.slots l.marks l.pending l.out.items l.next;
}

abbrev pub decreases-loop-next : goal.decreases-loop-next
decreases-loop-next l = vec_len l.out + count_unmarked l.marks - l.next
