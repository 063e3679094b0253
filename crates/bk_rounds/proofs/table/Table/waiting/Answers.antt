use Rattle.bk_index.specs.Places.{number_of}
use Rattle.bk_rounds.proofs.Waits.{waits_listed}
use Rattle.bk_rounds.proofs.table.Table.waiting.Goals as goal

pub returns : goal.returns
returns c = rw (← c.self.view_is) (waits_listed c.self.inside.weights c.self.inside.certs.items c.self.inside.names (number_of c.self.inside.places) c.self.inside.top c.self.invariant
    c.in_ok-places.places.items c.list.new.places.items c.list.ensures.listed c.list.ensures.same c.in_ok-places.ensures)
