use Rattle.bk_index.specs.Places.{number_of}
use Rattle.bk_rounds.proofs.Found.{place_held}
use Rattle.bk_rounds.proofs.table.Table.has.Goals as goal

pub returns : goal.returns
returns c = rw (c.is_some.ensures, c.get.ensures, ← c.self.view_is) (place_held c.self.inside.weights c.self.inside.certs.items c.self.inside.names (number_of c.self.inside.places) c.self.inside.top c.self.invariant c.args.place)
