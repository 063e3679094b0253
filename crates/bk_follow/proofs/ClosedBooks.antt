-- The book of a feed that was closed is what an answer is read off.
use Rattle.std.proofs.Common.{◌≡◌, List, ℕ, Some, sym, subst, ◌∙◌}
use Rattle.bk_frames.specs.Device.{Device}
use Rattle.bk_base.specs.Feed.{FeedValue}
use Rattle.bk_results.specs.declared.fault.Fault.{Fault}
use Rattle.bk_results.specs.declared.fault.Fault.TheVariants as fault
use Rattle.bk_answer.specs.Answers.{WritesAnswer, WritesNot}
use Rattle.bk_answer.specs.Closed.{ClosedValue, Executed, IsExecuted, OrderValue, IsClosedFor, IsOrderedFor, executed_of}
use Rattle.bk_follow.specs.Follower.{BookValue, IsCurrent}
use Rattle.bk_follow.specs.Ordering.{IsOrdered}
use Rattle.bk_follow.specs.Queries.{IsClosedBook, order_of}

some_same : (d e : Executed) → Some d ≡ Some e → d ≡ e
some_same d e same = cc

-- its book, with all of its order executed, is what an answer is read off
pub closed_for : (feed : FeedValue) (b : BookValue) (c : ClosedValue) → IsCurrent feed b → IsClosedBook b c → IsClosedFor feed c
closed_for feed b c current h = record {
  order = subst (IsOrderedFor feed) (sym h.order) (record {
    opening = current.book.opening;
    committee = current.book.committee;
    taken = current.book.taken;
    works = current.book.works;
    clear = current.clear;
    ordered = current.ordered;
  });
  executed = executed_here feed b c current h;
}
  where
    executed_here : (feed : FeedValue) (b : BookValue) (c : ClosedValue) → IsCurrent feed b → IsClosedBook b c → IsExecuted feed c.order.taken.ordered (executed_of c.ledger)
    executed_here feed b c current h =
        let same : current.done ≡ executed_of c.ledger = some_same current.done (executed_of c.ledger) (sym current.is_done ∙ h.executed) in
        subst (λ (o : OrderValue). IsExecuted feed o.taken.ordered (executed_of c.ledger)) (sym h.order) (subst (λ (e : Executed). IsExecuted feed b.taken.ordered e) same current.executed)

-- and its order alone
pub ordered_for : (feed : FeedValue) (b : BookValue) (o : OrderValue) → IsOrdered feed b → o ≡ order_of b → IsOrderedFor feed o
ordered_for feed b o ordered same = subst (IsOrderedFor feed) (sym same) (record {
  opening = ordered.book.opening;
  committee = ordered.book.committee;
  taken = ordered.book.taken;
  works = ordered.book.works;
  clear = ordered.clear;
  ordered = ordered.ordered;
})

-- ---- what was written of fewer feeds

module _ {E : Type 0} (text : FeedValue → E → List ℕ → Type 0) (of fewer : FeedValue → Type 0) (into : (feed : FeedValue) → fewer feed → of feed) (old new : Device) where
  pub writes_fewer : (end : E) → WritesAnswer of text end old new → WritesAnswer fewer text end old new
  writes_fewer end w = (λ feed h. w.0 feed (into feed h), w.1)

  pub writes_not_fewer : (f : Fault) → WritesNot of text f old new → WritesNot fewer text f old new
  writes_not_fewer (fault.Feed found) h = absurd h
  writes_not_fewer (fault.Collision id) h = absurd h
  writes_not_fewer (fault.Equivocation round author first second) h = absurd h
  writes_not_fewer (fault.Unfinished place) h = absurd h
  writes_not_fewer (fault.Write written) h = (λ feed k. h.0 feed (into feed k), h.1)
  writes_not_fewer fault.Memory h = h
