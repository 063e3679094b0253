use Rattle.bk_commit.proofs.Voted.{voted_in_history}
use Rattle.bk_commit.proofs.laws.voted_is_reached.Goals as goal

pub returns : goal.returns
returns c = λ z held a x voted. voted_in_history z held a x voted.votes
