use Rattle.std.proofs.Common.{eqb}
use Rattle.bk_tx.specs.declared.declared.Declared.{Declared}
use Rattle.bk_rules.proofs.Places.{found_at}
use Rattle.bk_rules.proofs.roles.declared_at.Goals as goal

pub returns-clause-found : goal.returns-clause-found
returns-clause-found c = found_at c.args.declared.now c.args.id (λ (d : Declared). eqb d.id c.args.id) (λ d h. h) c.declared_at.result c.declared_at.ensures
