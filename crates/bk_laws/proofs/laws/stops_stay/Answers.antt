use Rattle.bk_laws.proofs.Comparing.{stops_stay}
use Rattle.bk_laws.proofs.laws.stops_stay.Goals as goal

pub returns : goal.returns
returns c = stops_stay
