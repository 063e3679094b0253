use Rattle.bk_chain.proofs.Results.{one_result}
use Rattle.bk_chain.proofs.laws.one_result.Goals as goal

pub returns : goal.returns
returns c = one_result
