use Rattle.std.specs.Arc.{arc_value}
use Rattle.std.proofs.Common.{subst}
use Rattle.std.proofs.lemmas.Result.{IfOk-weaker}
use Rattle.bk_conflicts.specs.Plan.{IsPlan}
use Rattle.bk_ledger.proofs.PartRuns.{plan_ran}
use Rattle.bk_ledger.proofs.executing.run_plan.Goals as goal

pub returns-clause-ran : goal.returns-clause-ran
returns-clause-ran g c = IfOk-weaker c.execute_onto.result _ _
    (plan_ran (arc_value c.args.plan.now) c.args.state c.args.receipts.now.items _ (subst IsPlan c.deref.ensures c.len.ensures.plan) c.requires.runs)
    c.execute_onto.ensures.ran

pub returns-then-len-lt-WORTH_THREADS-clause-ran : goal.returns-then-len-lt-WORTH_THREADS-clause-ran
returns-then-len-lt-WORTH_THREADS-clause-ran g c = IfOk-weaker c.execute_here_onto.result _ _
    (plan_ran (arc_value c.args.plan.now) c.args.state c.args.receipts.now.items _ (subst IsPlan c.deref.ensures c.len.ensures.plan) c.requires.runs)
    c.execute_here_onto.ensures.ran
