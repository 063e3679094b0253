use Rattle.bk_conflicts.proofs.Clashing.{conflicts_clash}
use Rattle.bk_conflicts.proofs.laws.conflicts_are_clashes.Goals as goal

pub returns : goal.returns
returns c = conflicts_clash
