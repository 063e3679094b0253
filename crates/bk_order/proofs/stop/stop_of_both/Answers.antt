use Rattle.std.proofs.Common.{◌++◌, sym, ◌∙◌}
use Rattle.bk_order.proofs.Stopping.{least_told}
use Rattle.bk_order.proofs.stop.stop_of_both.Goals as goal

pub returns-in-Some : goal.returns-in-Some
returns-in-Some c = least_told (c.args.held.now ++ c.args.more.now) (c.args.batches.now ++ c.args.others.now) c.in_ok-certs.certs.collision c.in_ok-digest.digest c.in-Some.id c.in_ok-certs.ensures.collision c.in_ok-digest.ensures.found (sym c.least.ensures ∙ c.in-Some.is)
