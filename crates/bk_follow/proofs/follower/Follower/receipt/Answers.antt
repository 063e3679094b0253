use Rattle.std.proofs.Common.{Option, sym, ap, ◌∙◌}
use Rattle.std.specs.Prelude.{slice_get}
use Rattle.bk_answer.specs.Closed.{Executed}
use Rattle.bk_follow.specs.Follower.{receipts_of_executed}
use Rattle.bk_follow.proofs.follower.Follower.receipt.Goals as goal

pub returns-in-Some-clause-receipt : goal.returns-in-Some-clause-receipt
returns-in-Some-clause-receipt c = c.receipt.ensures ∙ ap (λ (o : Option Executed). slice_get (receipts_of_executed o) c.args.place) (sym c.in-Some.ensures)

pub returns-in-None-clause-receipt : goal.returns-in-None-clause-receipt
returns-in-None-clause-receipt c = ap (λ (o : Option Executed). slice_get (receipts_of_executed o) c.args.place) (sym c.in-None.ensures)
