use Rattle.bk_laws.proofs.ChainedFeeds.{links_fit}
use Rattle.bk_laws.proofs.binding.links_fit.Goals as goal

pub returns : goal.returns
returns c = links_fit
