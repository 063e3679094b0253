-- What is known of a book.
use Rattle.std.specs.Prelude.{◌≡◌, ◌≤◌, ◌++◌, length, List, Option}
use Rattle.bk_base.specs.declared.version.Version.{Version}
use Rattle.bk_base.specs.Feed.{Frame, FeedValue, IsFeed, AreGoodFrom}
use Rattle.bk_committee.specs.Payload.{CommitteeValue}
use Rattle.bk_results.specs.declared.fault.Fault.{Fault}
use Rattle.bk_results.specs.declared.fault.Fault.TheVariants as fault
use Rattle.bk_follow.specs.Follower.{BookValue, FollowsBy, IsBookOf, IsCurrent, receipts_of_executed}
use Rattle.bk_answer.specs.RunReport.{HasNoStopIn, IsStopIn, HasPlaceIn}

-- this is made of the good frames of a feed
pub record IsGoodBook (feed : FeedValue) (b : BookValue) : Type 0 where
  pub good : AreGoodFrom feed.version 0 4 feed.frames
  pub opened : 2 ≤ length feed.frames
  pub book : IsBookOf feed b

-- why a book was not settled, and what it leaves
abbrev pub BookSettleFails : BookValue → BookValue → Fault → Type 0
BookSettleFails old new (fault.Feed found) = ⊥
BookSettleFails old new (fault.Unfinished place) =
    ((feed : FeedValue) → IsGoodBook feed old → HasPlaceIn feed place)
    × (length (receipts_of_executed old.executed) ≤ place)
BookSettleFails old new (fault.Write written) = ⊥
BookSettleFails old new fault.Memory = (feed : FeedValue) → IsGoodBook feed old → HasNoStopIn feed
BookSettleFails old new stop =
    (new ≡ old) × ((feed : FeedValue) → IsGoodBook feed old → IsStopIn feed stop)

-- these frames are followed, and these others make good ones of them all
pub record HasFollowed (version : Version) (before more : List Frame) (committee : Option CommitteeValue) (book : Option BookValue) : Type 0 where
  pub follows : FollowsBy version before committee book
  pub good : AreGoodFrom version 0 4 (before ++ more)

-- the feeds whose settled book this is
abbrev pub IsCurrentOf : BookValue → FeedValue → Type 0
IsCurrentOf b feed = IsFeed feed × IsCurrent feed b
