use Rattle.bk_picture.proofs.head.NameDisplay.fmt.Goals as goal

pub returns-clause-writes : goal.returns-clause-writes
returns-clause-writes g c = c.write.ensures.writes
