use Rattle.bk_pool.proofs.Folds.{fold_of}
use Rattle.bk_pool.proofs.Left.{ran_alone}
use Rattle.bk_pool.proofs.outcome.outcome_of.Goals as goal

pub returns-clause-fold : goal.returns-clause-fold
returns-clause-fold c = fold_of c.args.plan.now c.args.state c.new-receipts.result.items c.new-receipts.ensures.items _ c.in_ok-state.ensures.fold

pub returns-clause-ran : goal.returns-clause-ran
returns-clause-ran c = ran_alone c.args.plan.now c.args.state c.new-receipts.result.items c.new-receipts.ensures.items _ c.in_ok-state.state c.in_ok-state.ensures.ran
