use Rattle.bk_evidence.proofs.Lawful.{batch_answer_is_one}
use Rattle.bk_evidence.proofs.laws.one_batch_answer.Goals as goal

pub returns : goal.returns
returns c = batch_answer_is_one
