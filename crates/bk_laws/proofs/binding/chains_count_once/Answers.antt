use Rattle.bk_laws.proofs.ChainedCounts.{chains_count_once}
use Rattle.bk_laws.proofs.binding.chains_count_once.Goals as goal

pub returns : goal.returns
returns c = chains_count_once
