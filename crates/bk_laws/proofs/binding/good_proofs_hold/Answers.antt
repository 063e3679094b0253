use Rattle.bk_laws.proofs.BindingFeeds.{good_proofs}
use Rattle.bk_laws.proofs.binding.good_proofs_hold.Goals as goal

pub returns : goal.returns
returns c = good_proofs
