use Rattle.std.proofs.Common.{ℕ, Option, is_some, eqb, ap, ◌∙◌}
use Rattle.bk_rules.proofs.Places.{position_is}
use Rattle.bk_rules.proofs.part.has_near.Goals as goal

pub returns : goal.returns
returns c = c.is_some.ensures ∙ ap (λ (o : Option ℕ). is_some o) c.index_by.ensures ∙ position_is (λ (i : ℕ). eqb i c.args.id) c.args.ids.now
