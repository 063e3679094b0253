use Rattle.bk_steps.proofs.Outcomes.{first_left}
use Rattle.bk_steps.proofs.outcome.receipts_of.Goals as goal

pub returns-in_default : goal.returns-in_default
returns-in_default c = record {
  done = tt;
  left = first_left c.loop-place.receipts.items c.args.stages.now c.loop-place.place c.loop-place.invariant c.loop-place-test.true c.in_default.not-Done;
}
