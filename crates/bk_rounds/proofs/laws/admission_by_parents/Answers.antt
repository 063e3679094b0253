use Rattle.bk_rounds.proofs.Ones.{by_parents, by_weight}
use Rattle.bk_rounds.proofs.laws.admission_by_parents.Goals as goal

pub returns : goal.returns
returns c = λ z held ones good many clear r d.
    (by_parents z held r d, by_weight z held ones good many clear r d)
