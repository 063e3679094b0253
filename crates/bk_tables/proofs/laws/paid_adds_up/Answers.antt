use Rattle.bk_tables.proofs.PlaceRows.{adds_up}
use Rattle.bk_tables.proofs.laws.paid_adds_up.Goals as goal

pub returns : goal.returns
returns c = adds_up
