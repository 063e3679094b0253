use Rattle.std.proofs.Common.{ℕ, eqb, ap, ◌∙◌}
use Rattle.std.specs.List.{position}
use Rattle.bk_tx.specs.declared.declared.Declared.{Declared}
use Rattle.bk_tx.proofs.Positions.{position-map}
use Rattle.bk_tx.proofs.declared.Declarations.declared_at.Goals as goal

pub returns : goal.returns
returns c = c.index_of.ensures ∙ ap (position (λ (x : ℕ). eqb x c.args.id)) c.ids.ensures.all ∙ position-map (λ (d : Declared). d.id) (λ (x : ℕ). eqb x c.args.id) c.args.self.now
