use Rattle.std.proofs.Common.{[], ◌∷◌, sym, ap, ◌∙◌}
use Rattle.bk_base.specs.declared.genesis.Row.{Row}
use Rattle.bk_follow.proofs.ComparedBooks.{row_of_fields}
use Rattle.bk_follow.proofs.comparing.same_row.Goals as goal

pub returns : goal.returns
returns c = (
  λ t. row_of_fields c.args.one.now c.args.other.now (sym c.fields.ensures ∙ c.same_fields.ensures.0 t ∙ c.fields-2.ensures),
  λ e. c.same_fields.ensures.1 (c.fields.ensures ∙ ap (λ (r : Row). r.id ∷ r.balance ∷ r.seq ∷ []) e ∙ sym c.fields-2.ensures),
)
