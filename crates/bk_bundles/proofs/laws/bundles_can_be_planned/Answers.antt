use Rattle.bk_bundles.proofs.Merged.{can_be_planned}
use Rattle.bk_bundles.proofs.laws.bundles_can_be_planned.Goals as goal

pub returns : goal.returns
returns c = can_be_planned
