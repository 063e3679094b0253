use Rattle.bk_rounds.proofs.rounds.Rounds.sound.Goals as goal

pub returns-clause-good : goal.returns-clause-good
returns-clause-good c = rw (← c.self.view_is) c.sound.ensures.good

pub returns-clause-clear : goal.returns-clause-clear
returns-clause-clear c = rw (← c.self.view_is) c.sound.ensures.clear
