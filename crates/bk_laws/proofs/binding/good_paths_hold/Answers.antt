use Rattle.bk_laws.proofs.BindingRoots.{good_paths}
use Rattle.bk_laws.proofs.binding.good_paths_hold.Goals as goal

pub returns : goal.returns
returns c = good_paths
