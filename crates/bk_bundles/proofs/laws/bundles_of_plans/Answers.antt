use Rattle.bk_bundles.proofs.Plans.{receipts_fit, edges_of_bundles, bundles_leave_fold}
use Rattle.bk_bundles.proofs.laws.bundles_of_plans.Goals as goal

pub returns-clause-fit : goal.returns-clause-fit
returns-clause-fit c = receipts_fit

pub returns-clause-edges : goal.returns-clause-edges
returns-clause-edges c = edges_of_bundles

pub returns-clause-fold : goal.returns-clause-fold
returns-clause-fold c = bundles_leave_fold
