use Rattle.bk_laws.proofs.Answers.{fault_or_report}
use Rattle.bk_laws.proofs.laws.fault_or_apply_report.Goals as goal

pub returns : goal.returns
returns c = fault_or_report
