use Rattle.bk_rules.proofs.Folding.{total_kept_by_fold}
use Rattle.bk_rules.proofs.Kept.{total_kept}
use Rattle.bk_rules.proofs.laws.total_is_kept.Goals as goal

pub returns-clause-one : goal.returns-clause-one
returns-clause-one c = total_kept

pub returns-clause-many : goal.returns-clause-many
returns-clause-many c = total_kept_by_fold
