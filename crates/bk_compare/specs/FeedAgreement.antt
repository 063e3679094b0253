-- When the feeds of two sources agree, and why they do not.
use Rattle.std.specs.Prelude.{◌≡◌, Bool, List, ℕ}
use Rattle.bk_frames.specs.Device.{Device, Works, GaveAll}
use Rattle.bk_base.specs.Feed.{FeedValue, IsFeed, spelling}
use Rattle.bk_frames.specs.Pulling.{Refuses}
use Rattle.bk_order.specs.declared.stop.Stop.TheVariants as stop
use Rattle.bk_results.specs.declared.compare_stop.CompareStop.{CompareStop}
use Rattle.bk_results.specs.declared.compare_stop.CompareStop.TheVariants as why
use Rattle.bk_results.specs.declared.differ.Agreed.{Agreed}
use Rattle.bk_results.specs.declared.differ.Differ.{Differ}
use Rattle.bk_results.specs.declared.differ.Differ.TheVariants as differ
use Rattle.bk_results.specs.declared.fault.Fault.{Fault}
use Rattle.bk_results.specs.declared.fault.Fault.TheVariants as fault
use Rattle.bk_compare.specs.declared.compared.Compared.{Compared}
use Rattle.bk_answer.specs.Flaws.{IsFlawIf}
use Rattle.bk_answer.specs.Gaps.{IsGapIn}
use Rattle.bk_follow.specs.Agreement.{HaveOneSetup, HaveNoStop, HaveStop, SetupsDiffer, Agree}
use Rattle.bk_results.specs.Devices.{AreFeed}
use Rattle.bk_answer.specs.Outcomes.{Outcome, IsOutcomeOf}
use Rattle.bk_answer.specs.RunReport.{HasPlace}

-- ---- two feeds

-- two feeds agree: they have one setup, nothing stops the frames of both together, and where the one ends agrees with
-- where the other ends
pub record FeedsAgree (one other : FeedValue) (a : Agreed) : Type 0 where
  pub clear : HaveNoStop one other
  pub end : Outcome
  pub also : Outcome
  pub outcome : IsOutcomeOf one end
  pub also_outcome : IsOutcomeOf other also
  pub agree : Agree end also a

-- they agree so far, these are the first missing batches of their orders, and this keeps each from counting whole, where
-- that is asked for
pub record FeedsCompared (strict : Bool) (one other : FeedValue) (c : Compared) : Type 0 where
  pub agree : FeedsAgree one other c.agreed
  pub first : IsGapIn one c.first
  pub second : IsGapIn other c.second
  pub first_flaw : IsFlawIf strict one c.first_flaw
  pub second_flaw : IsFlawIf strict other c.second_flaw

-- why they do not: their setups differ, first in this part; or they have one, and the frames of both together are stopped so, or memory ran out
abbrev pub FeedsDiffer : Differ → FeedValue → FeedValue → Type 0
FeedsDiffer (differ.Setup part) one other = SetupsDiffer part one other
FeedsDiffer (differ.Collision id) one other = HaveStop one other (stop.Collision id)
FeedsDiffer (differ.Twins round author first second) one other =
    HaveStop one other
    (stop.Twins (record { round = round; author = author; first = first; second = second }))
FeedsDiffer differ.Memory one other = HaveOneSetup one other

-- ---- two sources

-- two sources
pub record Sources : Type 0 where
  pub first : Device
  pub second : Device

-- the sources of a comparison
abbrev pub sources : Device → Device → Sources
sources first second = record { first = first; second = second }

-- no call of either failed
abbrev pub BothWork : Sources → Sources → Type 0
BothWork old new = Works old.first new.first × Works old.second new.second

-- two byte strings encode feeds, and this holds of the feeds
pub record OfTheirFeeds (bytes more : List ℕ) (P : FeedValue → FeedValue → Type 0) : Type 0 where
  pub one : FeedValue
  pub other : FeedValue
  pub good : IsFeed one
  pub other_good : IsFeed other
  pub spelled : bytes ≡ spelling one
  pub other_spelled : more ≡ spelling other
  pub holds : P one other

-- both sources gave bytes, all that each had where that is known, which encode feeds, and this holds of the feeds
abbrev pub BothGave : Sources → Sources → (FeedValue → FeedValue → Type 0) → Type 0
BothGave old new holds =
    GaveAll old.first new.first (λ bytes. GaveAll old.second new.second (λ more. OfTheirFeeds bytes more holds))

-- why the feed of a source was not followed to its end: it was refused; a worker took a place and did not finish it; or
-- memory ran out. That something stops the feed is no such reason
abbrev pub FollowFails : Fault → Device → Device → Type 0
FollowFails (fault.Feed found) old new = Refuses found old new
FollowFails (fault.Unfinished place) old new = Works old new × GaveAll old new (λ bytes. HasPlace bytes place)
FollowFails fault.Memory old new = Works old new
FollowFails other old new = ⊥

-- why the feeds of two sources do not agree: the first was not followed to its end, and nothing is read of the second;
-- the first was, and the second was not; or both were, and they differ
abbrev pub ComparisonStops : CompareStop → Sources → Sources → Type 0
ComparisonStops (why.First found) old new =
    FollowFails found old.first new.first × (new.second ≡ old.second)
ComparisonStops (why.Second found) old new =
    Works old.first new.first × GaveAll old.first new.first AreFeed × FollowFails found old.second new.second
ComparisonStops (why.Differ found) old new = BothWork old new × BothGave old new (FeedsDiffer found)
