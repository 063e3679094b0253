use Rattle.bk_order.specs.declared.stop.Stop.{Stop}
use Rattle.bk_order.specs.declared.stop.Stop.TheVariants as stop
use Rattle.bk_follow.specs.Follower.{BookValue}
use Rattle.bk_base.specs.Feed.{FeedValue}
use Rattle.bk_answer.specs.RunReport.{later_frames, IsStopIn, fault_of}
use Rattle.bk_follow.specs.private.Books.{IsGoodBook}
use Rattle.bk_follow.specs.private.Ordered.{BookOrderFails}
use Rattle.std.proofs.Common.{refl, sym, subst}
use Rattle.bk_follow.proofs.Books.{IsSettling, stop_in}
use Rattle.bk_follow.proofs.OrderSoFar.{orders_book}
use Rattle.bk_follow.proofs.book.Book.settle_order.Goals as goal

pub returns-clause-order : goal.returns-clause-order
returns-clause-order c = λ feed good.
    let s : IsSettling c.self.inside.intake c.settle.new.self = record { same = c.in_ok-settle.ensures.committee; kept = c.in_ok-settle.ensures.kept; works = c.in_ok-settle.ensures.open.1; clear = c.in_default.ensures; order = c.in_ok-settle.ensures.order } in
    orders_book feed c.self.inside.intake c.settle.new.self c.self.inside.ledger c.self.inside.opening.items s (subst (IsGoodBook feed) (sym c.self.view_is) good)

-- a stop leaves the book as it was
stop_fails : (b : BookValue) (s : Stop) → ((feed : FeedValue) → IsGoodBook feed b → IsStopIn feed (fault_of s)) → BookOrderFails b b (fault_of s)
stop_fails b (stop.Collision id) h = (refl, h)
stop_fails b (stop.Twins e) h = (refl, h)

pub returns-in-Some-clause-fault : goal.returns-in-Some-clause-fault
returns-in-Some-clause-fault c =
    subst (BookOrderFails _ _) (sym c.stopped.ensures) (stop_fails c.args.self.now c.in-Some.stop (λ feed good.
    let here = subst (IsGoodBook feed) (sym c.self.view_is) good in
    stop_in feed _ c.in-Some.stop here.book (c.in-Some.ensures (later_frames feed) here.book.taken)))
