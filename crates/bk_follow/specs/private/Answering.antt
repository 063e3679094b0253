-- What a Follower's feed answered at its end, whatever was asked of it.
use Rattle.std.specs.Prelude.{◌≡◌, ℕ, Bool, true, List, Option, Some}
use Rattle.bk_base.specs.Feed.{FeedValue, IsFeed}
use Rattle.bk_frames.specs.Cutting.{EndsShort}
use Rattle.bk_frames.specs.Device.{Device, Works, Fails}
use Rattle.bk_results.specs.declared.fault.Fault.{Fault}
use Rattle.bk_results.specs.declared.fault.Fault.TheVariants as fault
use Rattle.bk_results.specs.Devices.{IsUntouched}
use Rattle.bk_answer.specs.Answers.{TextIsOut, TextStops}
use Rattle.bk_answer.specs.RunReport.{HasPlaceIn, IsStopIn}
use Rattle.bk_follow.specs.Finishing.{OfFeed}
use Rattle.bk_follow.specs.Follower.{BookValue, Followed, IsCurrent}
use Rattle.bk_follow.specs.Ordering.{IsOrdered}

-- a feed was closed, and this is made of its frames
abbrev pub IsOfClosed : Option BookValue → Type 0
IsOfClosed book =
    (feed : FeedValue) × IsFeed feed × (b : BookValue) × (book ≡ Some b) × IsCurrent feed b

-- the order of a feed was closed, and this is made of its frames
abbrev pub IsOfOrdered : Option BookValue → Type 0
IsOfOrdered book =
    (feed : FeedValue) × IsFeed feed × (b : BookValue) × (book ≡ Some b) × IsOrdered feed b

-- the feeds of whose order this is the book
abbrev pub IsOrderedOf : BookValue → FeedValue → Type 0
IsOrderedOf b feed = IsFeed feed × IsOrdered feed b

-- a Follower's feed answered at its end
abbrev pub FollowerAnswers : {E : Type 0} → (FeedValue → E → List ℕ → Type 0) → Followed → E → Device → Device → Type 0
FollowerAnswers text v end old new = OfFeed v (λ feed. TextIsOut (text feed end) old new) × Works old new

-- why it did not
abbrev pub FollowerAnswersNot : {E : Type 0} → (FeedValue → E → List ℕ → Type 0) → Bool → Followed → Fault → Device → Device → Type 0
FollowerAnswersNot text executes v (fault.Feed found) old new = EndsShort v.cut found × IsUntouched old new
FollowerAnswersNot text executes v (fault.Unfinished place) old new =
    (executes ≡ true) × OfFeed v (λ feed. HasPlaceIn feed place) × IsUntouched old new
FollowerAnswersNot {E} text executes v (fault.Write written) old new =
    OfFeed v (λ feed. (end : E) × TextStops (text feed end) written old new) × Fails old new
FollowerAnswersNot text executes v fault.Memory old new = IsUntouched old new
FollowerAnswersNot text executes v stop old new = OfFeed v (λ feed. IsStopIn feed stop) × IsUntouched old new
