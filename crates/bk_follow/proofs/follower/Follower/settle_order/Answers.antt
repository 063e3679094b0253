use Rattle.std.proofs.Common.{Some, None, refl, sym, subst, ◌∙◌}
use Rattle.bk_follow.specs.Follower.{Followed, IsBookOf, HasCome}
use Rattle.bk_follow.specs.Ordering.{FindsOrder, OrderFails, anchors_in, certs_in}
use Rattle.bk_follow.specs.private.Parts.{followed}
use Rattle.bk_follow.proofs.Following.{follower_of, good_of, come_on, stop_same, left_now, works_unbroken}
use Rattle.bk_follow.proofs.OrderSoFar.{finds_order, none_ordered_yet, as_settle, order_fails}
use Rattle.bk_follow.proofs.follower.Follower.settle_order.Goals as goal

pub returns-in_default-book-clause-settled : goal.returns-in_default-book-clause-settled
returns-in_default-book-clause-settled c =
    subst (λ (old : Followed). FindsOrder old (follower_of c.self.inside.gathered.cutter c.self.inside.gathered.opened.committee c.self.inside.gathered.opened.book c.self.inside.fault) (anchors_in c.self.inside.gathered.opened.book) (certs_in c.self.inside.gathered.opened.book)) c.self.view_is
    (none_ordered_yet (follower_of c.self.inside.gathered.cutter c.self.inside.gathered.opened.committee c.self.inside.gathered.opened.book c.self.inside.fault) c.in_default-book.is)

pub invariant_of-self-in-Ok : goal.invariant_of-self-in-Ok
invariant_of-self-in-Ok c = (
  λ none.
      let inv = c.self.invariant.0 none in
      let good = good_of inv.0 inv.1 (followed c.self.inside.gathered.cutter c.self.inside.gathered.opened) c.in-Some-book.book inv.2 c.in-Some-book.is in
      (inv.0, inv.1, come_on inv.0 inv.1 c.self.inside.gathered.cutter c.self.inside.gathered.opened.committee c.settle_order.new.self None (followed c.self.inside.gathered.cutter c.self.inside.gathered.opened) c.in-Some-book.book refl inv.2 good refl (c.in-Ok.ensures.order _ good.good).book),
  works_unbroken c.self.inside.fault (follower_of c.self.inside.gathered.cutter c.self.inside.gathered.opened.committee (Some c.settle_order.new.self) None) c.in_default.is,
)

pub invariant_of-self-in-Err : goal.invariant_of-self-in-Err
invariant_of-self-in-Err c = (
  λ none.
      let inv = c.self.invariant.0 c.in_default.is in
      let good = good_of inv.0 inv.1 (followed c.self.inside.gathered.cutter c.self.inside.gathered.opened) c.in-Some-book.book inv.2 c.in-Some-book.is in
      let same = stop_same c.in-Err.fault c.in-Some-book.book c.settle_order.new.self (sym c.latch_unless_stop.ensures.standing ∙ none) (as_settle c.in-Err.fault c.in-Some-book.book c.settle_order.new.self c.in-Err.ensures.fault) in (
        inv.0,
        inv.1,
        subst (HasCome inv.0 inv.1) (sym (left_now c.in-Err.fault (follower_of c.self.inside.gathered.cutter c.self.inside.gathered.opened.committee (Some c.settle_order.new.self) None) c.latch_unless_stop.new.gathered.cutter c.latch_unless_stop.new.gathered.opened.committee c.latch_unless_stop.new.gathered.opened.book c.latch_unless_stop.new.standing none c.latch_unless_stop.ensures.standing c.latch_unless_stop.ensures.left))
            (come_on inv.0 inv.1 c.self.inside.gathered.cutter c.self.inside.gathered.opened.committee c.settle_order.new.self None (followed c.self.inside.gathered.cutter c.self.inside.gathered.opened) c.in-Some-book.book refl inv.2 good refl
            (subst (IsBookOf _) (sym same) good.good.book)),
      ),
  c.latch_unless_stop.ensures.emptied,
)

pub returns-in-Ok-clause-settled : goal.returns-in-Ok-clause-settled
returns-in-Ok-clause-settled c =
    subst (λ (old : Followed). FindsOrder old (follower_of c.self.inside.gathered.cutter c.self.inside.gathered.opened.committee (Some c.settle_order.new.self) c.self.inside.fault) c.settle_order.new.self.taken.ordered.anchors c.settle_order.new.self.taken.ordered.order) c.self.view_is
    (finds_order c.self.inside.gathered.cutter c.self.inside.gathered.opened.committee c.self.inside.gathered.opened.book c.self.inside.fault c.in-Some-book.book c.settle_order.new.self c.in-Some-book.is c.in-Ok.ensures.order c.in-Ok.ensures.executed)

pub returns-in-Err-clause-fault : goal.returns-in-Err-clause-fault
returns-in-Err-clause-fault c = λ none.
    rw c.latch_unless_stop.ensures.same
    (subst (λ (old : Followed). OrderFails old (follower_of c.latch_unless_stop.new.gathered.cutter c.latch_unless_stop.new.gathered.opened.committee c.latch_unless_stop.new.gathered.opened.book c.latch_unless_stop.new.standing) c.in-Err.fault) c.self.view_is
    (order_fails c.in-Err.fault c.self.inside.gathered.cutter c.self.inside.gathered.opened.committee c.self.inside.gathered.opened.book c.self.inside.fault c.in-Some-book.book c.settle_order.new.self (follower_of c.latch_unless_stop.new.gathered.cutter c.latch_unless_stop.new.gathered.opened.committee c.latch_unless_stop.new.gathered.opened.book c.latch_unless_stop.new.standing) c.in-Some-book.is c.in_default.is c.latch_unless_stop.ensures.left c.in-Err.ensures.fault))
