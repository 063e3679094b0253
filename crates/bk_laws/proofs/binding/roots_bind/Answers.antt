use Rattle.bk_laws.proofs.BindingRoots.{roots_bind}
use Rattle.bk_laws.proofs.binding.roots_bind.Goals as goal

pub returns : goal.returns
returns c = roots_bind
