use Rattle.std.proofs.Common.{◌∙◌, Option, sym, subst}
use Rattle.bk_tx.specs.Transaction.{Transaction}
use Rattle.bk_views.specs.private.Accounts.{IsPlaceOf}
use Rattle.bk_views.proofs.Telling.{told_malformed, told_without}
use Rattle.bk_views.proofs.statement.Statement.take_part.Goals as goal

pub returns-in_default-clause-told : goal.returns-in_default-clause-told
returns-in_default-clause-told c = λ course is told. told_malformed course c.args.receipt c.args.self.now (subst (λ (t : Option Transaction). IsPlaceOf course c.args.self.now.place t c.args.receipt) c.in_default.is is) told

pub returns-in-None-clause-told : goal.returns-in-None-clause-told
returns-in-None-clause-told c = rw (← c.self.view_is) (λ course is told.
    told_without course c.in-Some.tx c.args.receipt _ (subst (λ (t : Option Transaction). IsPlaceOf course c.self.inside.place t c.args.receipt) c.in-Some.is is) (sym c.role_in.ensures ∙ c.in-None.is) told)
