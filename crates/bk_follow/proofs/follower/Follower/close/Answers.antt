use Rattle.std.proofs.Common.{ap, subst, ◌∙◌}
use Rattle.std.proofs.lemmas.Result.{err_from_is_err_and}
use Rattle.bk_follow.specs.Follower.{Followed, SettleFails}
use Rattle.bk_follow.proofs.Following.{close_unended, close_unsettled, closes, no_fault}
use Rattle.bk_follow.proofs.follower.Follower.close.Goals as goal

pub returns-in_err-end_here-clause-fault : goal.returns-in_err-end_here-clause-fault
returns-in_err-end_here-clause-fault g c =
    let p = err_from_is_err_and c.from_residual.result c.from_residual.ensures.1 in
    rw (p.1, p.2) (λ works. close_unended c.in_err-end_here.field-0.0 c.args.self.now c.end_here.new.self (c.in_err-end_here.ensures.fault works))

pub returns-in_err-settle-clause-fault : goal.returns-in_err-settle-clause-fault
returns-in_err-settle-clause-fault g c =
    let p = err_from_is_err_and c.from_residual-in_err-settle.result c.from_residual-in_err-settle.ensures.1 in
    rw (p.1, p.2) (λ works. close_unsettled c.in_err-settle.field-0.0 c.args.self.now c.settle.new.self c.in_ok-end_here.ensures.ends
    (subst (λ (v : Followed). SettleFails v c.settle.new.self c.in_err-settle.field-0.0) c.in_ok-end_here.ensures.stays (c.in_err-settle.ensures.fault (ap (λ (v : Followed). v.fault) c.in_ok-end_here.ensures.stays ∙ c.in_ok-end_here.ensures.ends.come.2.works))))

pub returns-in_err-settle-clause-again : goal.returns-in_err-settle-clause-again
returns-in_err-settle-clause-again g c = no_fault c.args.self.now.fault _ c.in_ok-end_here.ensures.ends.come.2.works

pub returns-clause-again : goal.returns-clause-again
returns-clause-again g c = no_fault c.args.self.now.fault _ c.in_ok-end_here.ensures.ends.come.2.works

pub returns-clause-works : goal.returns-clause-works
returns-clause-works g c = (c.in_ok-end_here.ensures.ends.come.2.works, c.in_ok-settle.ensures.works.1)

pub returns-clause-closed : goal.returns-clause-closed
returns-clause-closed g c = closes c.args.self.now c.end_here.new.self c.settle.new.self c.in_ok-settle.field-0 c.in_ok-end_here.ensures.ends c.in_ok-end_here.ensures.stays c.in_ok-settle.ensures.settled
