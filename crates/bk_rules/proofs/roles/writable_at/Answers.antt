use Rattle.std.proofs.Common.{◌&&◌, eqb}
use Rattle.bk_tx.specs.declared.declared.Declared.{Declared}
use Rattle.bk_rules.proofs.Places.{found_at}
use Rattle.bk_rules.proofs.RowLemmas.{and_right}
use Rattle.bk_rules.proofs.roles.writable_at.Goals as goal

pub returns-clause-found : goal.returns-clause-found
returns-clause-found c = found_at c.args.declared.now c.args.id (λ (d : Declared). d.writable && eqb d.id c.args.id) (λ d h. and_right d.writable (eqb d.id c.args.id) h) c.writable_at.result c.writable_at.ensures
