use Rattle.bk_laws.proofs.Replying.{exactly_one_reply}
use Rattle.bk_laws.proofs.laws.exactly_one_reply.Goals as goal

pub returns : goal.returns
returns c = exactly_one_reply
