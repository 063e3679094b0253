-- The order of which it is found what keeps a feed from counting whole.
use Rattle.std.proofs.Common.{◌≡◌, Some, None, sym, subst, ◌∙◌}
use Rattle.bk_base.specs.Feed.{FeedValue}
use Rattle.bk_answer.specs.Answers.{IsOrderMadeOf}
use Rattle.bk_answer.specs.Closed.{OrderValue}
use Rattle.bk_follow.specs.Follower.{BookValue, Followed}
use Rattle.bk_follow.specs.Ordering.{HasOrderOf, IsOrdered}
use Rattle.bk_follow.specs.Queries.{order_of}
use Rattle.bk_follow.proofs.ClosedBooks.{ordered_for}

same_book : (b c : BookValue) → Some b ≡ Some c → b ≡ c
same_book b c same = cc

-- the order of the book that there is is made of the feed
pub made_of : (v : Followed) (b : BookValue) (o : OrderValue) (feed : FeedValue) → v.book ≡ Some b → o ≡ order_of b → HasOrderOf v feed → IsOrderMadeOf o feed
made_of v b o feed same is (good, (d, there, ordered)) = (good, ordered_for feed b o (subst (IsOrdered feed) (same_book d b (sym there ∙ same)) ordered) is)

-- there is one
pub some_book : (v : Followed) (feed : FeedValue) → HasOrderOf v feed → v.book ≡ None → ⊥
some_book v feed (good, (d, there, ordered)) none = absurd (let e : None ≡ Some d = sym none ∙ there in cc)
