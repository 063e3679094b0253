use Rattle.std.proofs.Common.{◌*◌, drop, map}
use Rattle.bk_report.specs.Pages.{desk}
use Rattle.bk_tables.specs.Postings.{postings_text}
use Rattle.bk_tables.specs.private.Walking.{played_split, row_by}
use Rattle.bk_tables.proofs.Done.{IsDone}
use Rattle.bk_tables.proofs.parts.put_split.Given as goal

abbrev pub invariant-loop-payment : goal.invariant-loop-payment
invariant-loop-payment g l = IsDone (desk l.initial.sheet.page (g.K.Sink.state l.initial.sink)) (desk l.sheet.page (g.K.Sink.state l.sink)) (150 * l.payment-index) (postings_text l.accounts (map (row_by l.spot l.state.rows) (map (played_split l.spot.receipt) l.payments))) (postings_text l.accounts (map (row_by l.spot l.state.rows) (map (played_split l.spot.receipt) (drop l.payment-index l.payments))))
