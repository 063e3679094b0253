use Rattle.std.proofs.Common.{◌≡◌, ◌-◌, length}
use Rattle.bk_conflicts.specs.private.Rows.{turned, row_at}
use Rattle.bk_conflicts.proofs.Turning.{IsFilled, grown}
use Rattle.bk_conflicts.proofs.rows.spread.Given as goal

abbrev pub invariant-loop-s : goal.invariant-loop-s
invariant-loop-s l = record {
  space : length l.after.items ≡ length l.items;
  fill : IsFilled (turned (row_at l.start l.items) (length l.start - 1)) (grown (row_at l.start l.items) l.q l.row l.s-index) (length l.fn.cursor - 1) l.cursor l.after.items;
}

abbrev pub invariant-loop-q : goal.invariant-loop-q
invariant-loop-q l = record {
  space : length l.after.items ≡ length l.items;
  fill : IsFilled (turned (row_at l.start l.items) (length l.start - 1)) (turned (row_at l.start l.items) l.q) (length l.fn.cursor - 1) l.cursor l.after.items;
}
