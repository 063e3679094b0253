use Rattle.std.proofs.Common.{ap, subst, ◌∙◌}
use Rattle.std.proofs.lemmas.Result.{err_from_is_err_and}
use Rattle.bk_follow.specs.Follower.{Followed}
use Rattle.bk_follow.specs.Ordering.{OrderFails}
use Rattle.bk_follow.proofs.ClosedOrders.{closes_order, order_unended, order_unsettled}
use Rattle.bk_follow.proofs.Following.{no_fault}
use Rattle.bk_follow.proofs.follower.Follower.close_order.Goals as goal

pub returns-in_err-end_here-clause-fault : goal.returns-in_err-end_here-clause-fault
returns-in_err-end_here-clause-fault c =
    let p = err_from_is_err_and c.from_residual.result c.from_residual.ensures.1 in
    rw (p.1, p.2) (λ works. order_unended c.in_err-end_here.field-0.0 c.args.self.now c.end_here.new.self (c.in_err-end_here.ensures.fault works))

pub returns-in_err-settle_order-clause-fault : goal.returns-in_err-settle_order-clause-fault
returns-in_err-settle_order-clause-fault c =
    let p = err_from_is_err_and c.from_residual-in_err-settle_order.result c.from_residual-in_err-settle_order.ensures.1 in
    rw (p.1, p.2) (λ works. order_unsettled c.in_err-settle_order.field-0.0 c.args.self.now c.settle_order.new.self c.in_ok-end_here.ensures.ends
    (subst (λ (v : Followed). OrderFails v c.settle_order.new.self c.in_err-settle_order.field-0.0) c.in_ok-end_here.ensures.stays (c.in_err-settle_order.ensures.fault (ap (λ (v : Followed). v.fault) c.in_ok-end_here.ensures.stays ∙ c.in_ok-end_here.ensures.ends.come.2.works))))

pub returns-in_err-settle_order-clause-again : goal.returns-in_err-settle_order-clause-again
returns-in_err-settle_order-clause-again c = no_fault c.args.self.now.fault _ c.in_ok-end_here.ensures.ends.come.2.works

pub returns-clause-again : goal.returns-clause-again
returns-clause-again c = no_fault c.args.self.now.fault _ c.in_ok-end_here.ensures.ends.come.2.works

pub returns-clause-works : goal.returns-clause-works
returns-clause-works c = (c.in_ok-end_here.ensures.ends.come.2.works, c.in_ok-settle_order.ensures.works.1)

pub returns-clause-closed : goal.returns-clause-closed
returns-clause-closed c = closes_order c.args.self.now c.end_here.new.self c.settle_order.new.self _ _ c.in_ok-end_here.ensures.ends c.in_ok-end_here.ensures.stays c.in_ok-settle_order.ensures.settled
