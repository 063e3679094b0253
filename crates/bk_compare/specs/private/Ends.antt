-- Where a feed ends that is followed.
use Rattle.std.specs.Prelude.{◌≡◌, ◌⊎◌, List, ℕ, Some}
use Rattle.bk_base.specs.declared.version.Version.{Version}
use Rattle.bk_frames.specs.Cutting.{EndsShort}
use Rattle.bk_frames.specs.Device.{Device, Works, GaveAll}
use Rattle.bk_base.specs.Feed.{Frame, FeedValue, IsFeed, feed_of, spelling}
use Rattle.bk_order.specs.Stops.{IsStop}
use Rattle.bk_order.specs.declared.stop.Stop.{Stop}
use Rattle.bk_results.specs.declared.compare_stop.CompareStop.{CompareStop}
use Rattle.bk_results.specs.declared.compare_stop.CompareStop.TheVariants as why
use Rattle.bk_results.specs.declared.fault.Fault.{Fault}
use Rattle.bk_results.specs.declared.fault.Fault.TheVariants as fault
use Rattle.bk_follow.specs.Agreement.{settled_in, FollowersDiffer}
use Rattle.bk_answer.specs.Outcomes.{IsOutcomeOf}
use Rattle.bk_compare.specs.FeedAgreement.{FeedsDiffer, OfTheirFeeds, FollowFails}
use Rattle.bk_follow.specs.Finishing.{OfFeed}
use Rattle.bk_follow.specs.Follower.{BookValue, Followed, HasCome}
use Rattle.bk_follow.specs.Ordering.{IsOrdered}
use Rattle.bk_answer.specs.RunReport.{committee_in, later_frames, HasPlaceIn}

-- something stops a feed
abbrev pub HasStopIn : FeedValue → Type 0
HasStopIn feed = (s : Stop) × IsStop (committee_in feed) (later_frames feed) s

-- these bytes have come, they are a feed, and something stops it or it is settled to its end
pub record HasEnded (bytes : List ℕ) (v : Followed) : Type 0 where
  pub frames : List Frame
  pub come : HasCome bytes frames v
  pub version : Version
  pub known : v.cut.version ≡ Some version
  pub good : IsFeed (feed_of version frames)
  pub spelled : bytes ≡ spelling (feed_of version frames)
  pub end : HasStopIn (feed_of version frames) ⊎ IsOutcomeOf (feed_of version frames) (settled_in v.book)

-- whatever had come has ended
abbrev pub Ends : Followed → Followed → Type 0
Ends old new = (bytes : List ℕ) (frames : List Frame) → HasCome bytes frames old → HasEnded bytes new

-- why it has not
abbrev pub EndsNot : Followed → Fault → Type 0
EndsNot v (fault.Feed found) = EndsShort v.cut found
EndsNot v (fault.Unfinished place) = OfFeed v (λ feed. HasPlaceIn feed place)
EndsNot v fault.Memory = Unit {0}
EndsNot v other = ⊥

-- two Followers have followed feeds to their ends
abbrev pub BothHaveEnded : Followed → Followed → Type 0
BothHaveEnded one other = (bytes : List ℕ) × (more : List ℕ) × HasEnded bytes one × HasEnded more other

-- this holds of the two feeds that they have followed
abbrev pub OfEnded : Followed → Followed → (FeedValue → FeedValue → Type 0) → Type 0
OfEnded one other holds =
    (bytes more : List ℕ) → HasEnded bytes one → HasEnded more other → OfTheirFeeds bytes more holds

-- why it does not agree with the feed that another source gave: the other feed was not followed to its end; or they differ
abbrev pub ComparisonStopsWith : CompareStop → Followed → Device → Device → Type 0
ComparisonStopsWith (why.First found) v old new = ⊥
ComparisonStopsWith (why.Second found) v old new = FollowFails found old new
ComparisonStopsWith (why.Differ found) v old new =
    Works old new
    × ((bytes : List ℕ) → HasEnded bytes v → GaveAll old new (λ more. OfTheirFeeds bytes more (FeedsDiffer found)))

-- two Followers differ so
abbrev pub IsDifferOf : Followed → Followed → CompareStop → Type 0
IsDifferOf one other (why.First found) = ⊥
IsDifferOf one other (why.Second found) = ⊥
IsDifferOf one other (why.Differ found) = FollowersDiffer one other found
