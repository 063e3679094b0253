use Rattle.std.proofs.Common.{List, ◌∙◌, ap, eqb, sym}
use Rattle.std.specs.List.{list_any}
use Rattle.bk_tx.specs.declared.payments.Payment.{Payment}
use Rattle.bk_tx.specs.declared.body.Body.{Body}
use Rattle.bk_tx.specs.Reading.{pays}
use Rattle.bk_views.proofs.PartsPlayed.{any_paid}
use Rattle.bk_views.proofs.parts.pays.Goals as goal

pub returns-in-Split : goal.returns-in-Split
returns-in-Split c =
    c.is_paid.ensures ∙ ap (λ (ps : List Payment). list_any (λ (p : Payment). eqb p.to c.args.id) ps) c.as_slice.ensures.all ∙ any_paid c.in-Split.payments c.args.id
    ∙ ap (λ (body : Body). pays body c.args.id) (sym c.in-Split.is)
