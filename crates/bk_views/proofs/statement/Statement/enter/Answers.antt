use Rattle.bk_views.proofs.Telling.{told_with}
use Rattle.bk_views.proofs.statement.Statement.enter.Goals as goal

pub returns-clause-told : goal.returns-clause-told
returns-clause-told c = rw (← c.self.view_is) (λ course is plays told.
    told_with course c.args.tx.now c.args.receipt _ is c.requires.sound c.args.role plays told c.amount_of-amount.result c.after_part-after.result _ c.amount_of-amount.ensures c.after_part-after.ensures c.in_ok-writeln.ensures.bytes)
