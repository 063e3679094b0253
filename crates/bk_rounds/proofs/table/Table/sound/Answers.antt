use Rattle.bk_index.specs.Places.{number_of}
use Rattle.bk_rounds.proofs.Found.{present_decided}
use Rattle.bk_rounds.proofs.table.Table.sound.Goals as goal

pub returns-clause-good : goal.returns-clause-good
returns-clause-good c = rw (← c.self.view_is) c.self.invariant.good

pub returns-clause-clear : goal.returns-clause-clear
returns-clause-clear c = rw (← c.self.view_is) c.self.invariant.clear

pub returns-clause-decided : goal.returns-clause-decided
returns-clause-decided c = rw (← c.self.view_is) (present_decided c.self.inside.weights c.self.inside.certs.items c.self.inside.names (number_of c.self.inside.places) c.self.inside.top c.self.invariant)
