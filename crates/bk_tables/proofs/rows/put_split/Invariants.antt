use Rattle.std.proofs.Common.{◌*◌, drop, map}
use Rattle.bk_report.specs.Pages.{desk}
use Rattle.bk_tables.specs.Payments.{payments_text, rows_of}
use Rattle.bk_tables.specs.private.Asking.{split_of}
use Rattle.bk_tables.proofs.Done.{IsDone}
use Rattle.bk_tables.proofs.rows.put_split.Given as goal

abbrev pub invariant-loop-item : goal.invariant-loop-item
invariant-loop-item g l = IsDone (desk l.initial.sheet.page (g.K.Sink.state l.initial.sink)) (desk l.sheet.page (g.K.Sink.state l.sink)) (300 * l.item) (payments_text l.accounts (rows_of l.at 0 (map (split_of l.from l.seq) l.payments))) (payments_text l.accounts (rows_of l.at l.item (map (split_of l.from l.seq) (drop l.item l.payments))))
