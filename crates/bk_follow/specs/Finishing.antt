-- What the end of a feed that is followed gives.
use Rattle.std.specs.Prelude.{◌≡◌, ℕ, ◌≤◌, List, length, Some}
use Rattle.bk_frames.specs.Device.{Device, Works, Fails}
use Rattle.bk_base.specs.Feed.{Frame, FeedValue, IsFeed, feed_of, spelling}
use Rattle.bk_base.specs.declared.version.Version.{Version}
use Rattle.bk_frames.specs.Cutting.{EndsShort}
use Rattle.bk_results.specs.declared.fault.Fault.{Fault}
use Rattle.bk_results.specs.declared.fault.Fault.TheVariants as fault
use Rattle.bk_results.specs.declared.status.Status.{Status}
use Rattle.bk_results.specs.Devices.{IsUntouched}
use Rattle.bk_answer.specs.Answers.{TextIsOut, TextStops}
use Rattle.bk_answer.specs.RunReport.{HasNoStopIn, IsReportOf, IsStopIn, HasPlaceIn}
use Rattle.bk_follow.specs.Follower.{BookValue, Followed, HasCome, IsCurrent, IsSettled, broken, executed_in, receipts_in}
use Rattle.bk_follow.specs.Ordering.{IsOrdered}

-- what has come is a feed, and this holds of it
pub record EndsAs (bytes : List ℕ) (frames : List Frame) (v : Followed) (P : FeedValue → Type 0) : Type 0 where
  pub version : Version
  pub known : v.cut.version ≡ Some version
  pub good : IsFeed (feed_of version frames)
  pub spelled : bytes ≡ spelling (feed_of version frames)
  pub holds : P (feed_of version frames)

-- of whatever has come: it is a feed, and this holds of it
abbrev pub OfFeed : Followed → (FeedValue → Type 0) → Type 0
OfFeed v P = (bytes : List ℕ) (frames : List Frame) → HasCome bytes frames v → EndsAs bytes frames v P

-- a feed was closed: what had come is a feed, which its whole order is executed of
pub record Closes (old new : Followed) : Type 0 where
  pub come : (bytes : List ℕ) × (frames : List Frame) × HasCome bytes frames old
  pub settled : (bytes : List ℕ) (frames : List Frame) → HasCome bytes frames old
      → HasCome bytes frames new × IsSettled frames new
  pub cut : new.cut ≡ old.cut
  pub current : OfFeed old (λ feed. (b : BookValue) × (new.book ≡ Some b) × IsCurrent feed b)

-- why it was not, and what that leaves: the bytes end too early; the stop of the feed, and then all is as it was; or nothing
-- stops the feed, and a place that was not executed before was not done, or memory ran out. But for a stop, the Follower
-- then holds nothing but the fault
abbrev pub CloseFails : Followed → Followed → Fault → Type 0
CloseFails old new (fault.Feed found) = EndsShort old.cut found × (new ≡ broken (fault.Feed found))
CloseFails old new (fault.Unfinished place) =
    OfFeed old (λ feed. HasPlaceIn feed place) × (new ≡ broken (fault.Unfinished place))
    × (length (receipts_in old.book) ≤ place)
CloseFails old new (fault.Write written) = ⊥
CloseFails old new fault.Memory = OfFeed old HasNoStopIn × (new ≡ broken fault.Memory)
CloseFails old new stop = OfFeed old (λ feed. IsStopIn feed stop) × (new ≡ old)

-- the order of a feed was closed: what had come is a feed, the order of all of it was found, and nothing was executed
pub record ClosesOrder (old new : Followed) : Type 0 where
  pub come : (bytes : List ℕ) × (frames : List Frame) × HasCome bytes frames old
  pub stays : (bytes : List ℕ) (frames : List Frame) → HasCome bytes frames old → HasCome bytes frames new
  pub cut : new.cut ≡ old.cut
  pub executed : executed_in new.book ≡ executed_in old.book
  pub ordered : OfFeed old (λ feed. (b : BookValue) × (new.book ≡ Some b) × IsOrdered feed b)

-- why it was not, and what that leaves: the bytes end too early; the stop of the feed, and then all is as it was; or nothing
-- stops the feed, and memory ran out. But for a stop, the Follower then holds nothing but the fault
abbrev pub CloseOrderFails : Followed → Followed → Fault → Type 0
CloseOrderFails old new (fault.Feed found) = EndsShort old.cut found × (new ≡ broken (fault.Feed found))
CloseOrderFails old new (fault.Unfinished place) = ⊥
CloseOrderFails old new (fault.Write written) = ⊥
CloseOrderFails old new fault.Memory = OfFeed old HasNoStopIn × (new ≡ broken fault.Memory)
CloseOrderFails old new stop = OfFeed old (λ feed. IsStopIn feed stop) × (new ≡ old)

-- a report was written: what had come is a feed, all of it is settled, and the sink received its report
pub record Finishes (old new : Followed) (before after : Device) (answer : Status) : Type 0 where
  pub settled : (bytes : List ℕ) (frames : List Frame) → HasCome bytes frames old
      → HasCome bytes frames new × IsSettled frames new
  pub cut : new.cut ≡ old.cut
  pub report : OfFeed old (λ feed. TextIsOut (IsReportOf feed answer) before after)
  pub works : Works before after

-- why there is no report, and what it leaves: the bytes end too early; the stop of the feed, and then all is as it was; or
-- nothing stops the feed, and a place that was not executed before was not done; the sink failed, and exactly the first
-- bytes of the report are out; or memory ran out. But for a stop, the Follower then holds nothing but the fault
abbrev pub FinishFails : Followed → Followed → Device → Device → Fault → Type 0
FinishFails old new before after (fault.Feed found) =
    EndsShort old.cut found × (new ≡ broken (fault.Feed found)) × IsUntouched before after
FinishFails old new before after (fault.Unfinished place) =
    OfFeed old (λ feed. HasPlaceIn feed place) × (new ≡ broken (fault.Unfinished place))
    × IsUntouched before after × (length (receipts_in old.book) ≤ place)
FinishFails old new before after (fault.Write written) =
    OfFeed old (λ feed. (answer : Status) × TextStops (IsReportOf feed answer) written before after) × (new ≡ broken (fault.Write written))
    × Fails before after
FinishFails old new before after fault.Memory =
    OfFeed old HasNoStopIn × (new ≡ broken fault.Memory) × IsUntouched before after
FinishFails old new before after stop =
    OfFeed old (λ feed. IsStopIn feed stop) × (new ≡ old) × IsUntouched before after
