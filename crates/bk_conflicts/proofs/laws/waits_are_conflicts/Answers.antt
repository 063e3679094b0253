use Rattle.std.proofs.Common.{arith}
use Rattle.bk_conflicts.specs.Conflicts.{clash}
use Rattle.bk_conflicts.proofs.Cover.{cover}
use Rattle.bk_conflicts.proofs.laws.waits_are_conflicts.Goals as goal

pub returns : goal.returns
returns c = record {
  edges = λ slots txs p q e. (e.1.earlier, ((λ same. let l = e.1.earlier in absurd (omega arith)), (e.0, e.1.here)));
  conflicts = λ slots txs p q l e. cover (clash slots txs) p q l e.1;
}
