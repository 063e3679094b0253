use Rattle.std.specs.Arc.{arc_value}
use Rattle.bk_pool.proofs.Ended.{closed_of}
use Rattle.bk_pool.proofs.run.run_ends.Goals as goal

pub returns : goal.returns
returns g c = closed_of (arc_value c.args.plan.now) c.args.state.now c.in_ok-bank.bank c.close.result c.in_ok-bank.ensures.setting c.close.ensures.ends c.close.ensures.size
