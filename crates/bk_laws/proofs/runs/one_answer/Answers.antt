use Rattle.bk_laws.proofs.RunLaws.{one_answer}
use Rattle.bk_laws.proofs.runs.one_answer.Goals as goal

pub returns : goal.returns
returns c = one_answer
