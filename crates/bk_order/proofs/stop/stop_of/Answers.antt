use Rattle.std.proofs.Common.{sym, ◌∙◌}
use Rattle.bk_order.proofs.Stopping.{least_told}
use Rattle.bk_order.proofs.stop.stop_of.Goals as goal

pub returns-in-Some : goal.returns-in-Some
returns-in-Some c = least_told c.args.held.now c.args.batches.now c.collision.result c.collision-2.result c.in-Some.id c.collision.ensures c.collision-2.ensures (sym c.least.ensures ∙ c.in-Some.is)
