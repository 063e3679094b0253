use Rattle.bk_laws.proofs.Claiming.{good_is_report, one_verdict}
use Rattle.bk_laws.proofs.laws.claims_have_one_verdict.Goals as goal

pub returns-clause-one : goal.returns-clause-one
returns-clause-one c = one_verdict

pub returns-clause-good : goal.returns-clause-good
returns-clause-good c = good_is_report
