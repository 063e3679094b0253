use Rattle.bk_picture.proofs.svg.push_label.Goals as goal

pub returns : goal.returns
returns c = c.in_ok-write.ensures.bytes
