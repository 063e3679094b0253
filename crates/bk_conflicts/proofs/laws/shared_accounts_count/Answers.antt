use Rattle.bk_conflicts.proofs.Shared.{shared_counts}
use Rattle.bk_conflicts.proofs.laws.shared_accounts_count.Goals as goal

pub returns : goal.returns
returns c = shared_counts
