use Rattle.bk_index.specs.Places.{number_of}
use Rattle.bk_rounds.proofs.Found.{top_highest, top_reached}
use Rattle.bk_rounds.proofs.table.Table.top.Goals as goal

pub returns-clause-highest : goal.returns-clause-highest
returns-clause-highest c = rw (← c.self.view_is) (top_highest c.self.inside.weights c.self.inside.certs.items c.self.inside.names (number_of c.self.inside.places) c.self.inside.top c.self.invariant)

pub returns-clause-reached : goal.returns-clause-reached
returns-clause-reached c = rw (← c.self.view_is) (top_reached c.self.inside.weights c.self.inside.certs.items c.self.inside.names (number_of c.self.inside.places) c.self.inside.top c.self.invariant)
