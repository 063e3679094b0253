use Rattle.bk_ledger.proofs.PartRuns.{part_can_run}
use Rattle.bk_ledger.proofs.executing.run_part.Goals as goal

pub run_plan-requires-clause-runs : goal.run_plan-requires-clause-runs
run_plan-requires-clause-runs g c = λ _ _. part_can_run c.args.ready.now c.args.state.now c.requires.runs c.in_ok-part.part (rw (c.ids.ensures, c.deref-2.ensures) at c.in_ok-part.ensures.part) c.in_ok-part.ensures.ledger c.in_ok-part.ensures.shown
