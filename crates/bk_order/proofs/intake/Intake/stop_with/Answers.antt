use Rattle.bk_order.proofs.Together.{stop_together}
use Rattle.bk_order.proofs.intake.Intake.stop_with.Goals as goal

pub returns : goal.returns
returns c = stop_together c.args.self.now c.args.other.now c.requires c.in_ok-found.found (rw (← c.self.view_is, ← c.other.view_is) c.in_ok-found.ensures)
