use Rattle.bk_tables.proofs.PlacesShown.{places_are}
use Rattle.bk_tables.proofs.laws.places_are_rows.Goals as goal

pub returns : goal.returns
returns c = places_are
