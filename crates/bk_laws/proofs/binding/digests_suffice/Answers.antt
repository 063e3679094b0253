use Rattle.bk_laws.proofs.ChainedFeeds.{digests_suffice}
use Rattle.bk_laws.proofs.binding.digests_suffice.Goals as goal

pub returns : goal.returns
returns c = digests_suffice
