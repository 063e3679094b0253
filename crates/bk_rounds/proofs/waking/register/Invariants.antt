use Rattle.std.proofs.Common.{◌≡◌, ◌<◌, ℕ, length, false, get_or}
use Rattle.std.specs.List.{Contains}
use Rattle.bk_rounds.specs.private.Numbered.{KeepsRows, row_of, is_marked}
use Rattle.bk_rounds.proofs.waking.register.Given as goal

abbrev pub invariant-loop-p : goal.invariant-loop-p
invariant-loop-p l = record {
  keeps : KeepsRows (length l.marks) l.fn.pending l.pending;
  done : (j d : ℕ) → j < l.p-index → j < length l.parents → is_marked l.marks (get_or l.parents j d) ≡ false → Contains (row_of l.pending (get_or l.parents j d)) l.k;
}
