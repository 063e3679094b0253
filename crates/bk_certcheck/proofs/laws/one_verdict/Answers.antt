use Rattle.bk_certcheck.proofs.Rules.{one_verdict}
use Rattle.bk_certcheck.proofs.laws.one_verdict.Goals as goal

pub returns : goal.returns
returns c = one_verdict
