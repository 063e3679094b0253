-- The order of which it is found what keeps a feed from counting whole.
use Rattle.std.proofs.Common.{ℕ, List}
use Rattle.bk_base.specs.Feed.{Frame, feed_of}
use Rattle.bk_follow.specs.Follower.{Followed}
use Rattle.bk_follow.specs.Ordering.{HasOrderOf}
use Rattle.bk_tail.specs.private.Steps.{IsWholeFeed}

-- at the end of the source it is the order of the whole feed
pub whole_order : (bytes : List ℕ) (frames : List Frame) (v : Followed) (w : IsWholeFeed bytes frames v) → HasOrderOf v (feed_of w.version frames)
whole_order bytes frames v w = (w.good, (w.holds.0, w.holds.1, record { book = w.holds.2.book; clear = w.holds.2.clear; ordered = w.holds.2.ordered }))
