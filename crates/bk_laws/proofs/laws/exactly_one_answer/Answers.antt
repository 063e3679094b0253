use Rattle.bk_laws.proofs.Answers.{exactly_one}
use Rattle.bk_laws.proofs.laws.exactly_one_answer.Goals as goal

pub returns : goal.returns
returns c = exactly_one
