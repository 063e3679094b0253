-- That two definitions count the same frames as rejected.
use Rattle.std.specs.Prelude.{◌≡◌, ℕ, List, length}
use Rattle.bk_base.specs.Feed.{FeedValue, IsFeed}
use Rattle.bk_order.specs.Frames.{AreRejects}
use Rattle.bk_order.specs.Intake.{first_later_frame}
use Rattle.bk_order.specs.declared.reject.Reject.{Reject}
use Rattle.bk_answer.specs.RunReport.{committee_in, later_frames}
use Rattle.bk_listing.specs.Rejects.{IsRejectedCount}

-- as many frames are rejected in the listing of a feed as its report has lines of rejected certificates
abbrev pub RejectsAreCounted : Type 0
RejectsAreCounted = (feed : FeedValue) (rejected : List Reject) (count : ℕ) → IsFeed feed
    → AreRejects (committee_in feed) first_later_frame (later_frames feed) rejected
    → IsRejectedCount feed.version feed.frames count → count ≡ length rejected
