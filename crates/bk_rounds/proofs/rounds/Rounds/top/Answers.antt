use Rattle.bk_rounds.proofs.rounds.Rounds.top.Goals as goal

pub returns-clause-highest : goal.returns-clause-highest
returns-clause-highest c = rw (← c.self.view_is) c.top.ensures.highest

pub returns-clause-reached : goal.returns-clause-reached
returns-clause-reached c = rw (← c.self.view_is) c.top.ensures.reached
