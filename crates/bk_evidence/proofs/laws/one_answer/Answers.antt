use Rattle.bk_evidence.proofs.Lawful.{answer_is_one}
use Rattle.bk_evidence.proofs.laws.one_answer.Goals as goal

pub returns : goal.returns
returns c = answer_is_one
