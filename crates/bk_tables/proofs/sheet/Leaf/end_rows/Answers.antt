use Rattle.std.proofs.Common.{arith}
use Rattle.bk_report.proofs.Putting.{puts_nothing}
use Rattle.bk_tables.proofs.Fronts.{all_rows_out, front_waits}
use Rattle.bk_tables.proofs.sheet.Leaf.end_rows.Goals as goal

pub returns-then-is_empty-clause-out : goal.returns-then-is_empty-clause-out
returns-then-is_empty-clause-out g c = all_rows_out c.end.result _ _ c.end.ensures.out

pub returns-clause-out : goal.returns-clause-out
returns-clause-out g c = rw (← c.self.view_is) (front_waits (g.K.Sink.state c.args.sink.now) c.self.inside.front.items c.self.inside.page (c.self.invariant (grind arith)))

pub returns-clause-more : goal.returns-clause-more
returns-clause-more g c = puts_nothing 0 c.requires
