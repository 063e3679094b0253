use Rattle.std.proofs.Common.{sym, ◌∙◌}
use Rattle.bk_compare.proofs.FeedEnds.{ends_closed, ends_by_stop}
use Rattle.bk_compare.proofs.agreeing.close.Goals as goal

pub returns-in-Ok-clause-ends : goal.returns-in-Ok-clause-ends
returns-in-Ok-clause-ends g c = ends_closed c.args.follower.now c.close.new.self c.in-Ok.ensures.closed

pub returns-in-Err-clause-ends : goal.returns-in-Err-clause-ends
returns-in-Err-clause-ends g c = ends_by_stop c.in-Err.fault c.args.follower.now c.close.new.self (sym c.is_stop.ensures ∙ c.if-is_stop.true) (c.in-Err.ensures.fault c.requires.works)
