use Rattle.bk_picture.proofs.svg.push_round.Goals as goal

pub returns : goal.returns
returns c = c.in_ok-write.ensures.bytes
