use Rattle.bk_laws.proofs.BindingFeeds.{one_proof}
use Rattle.bk_laws.proofs.binding.one_proof.Goals as goal

pub returns : goal.returns
returns c = one_proof
