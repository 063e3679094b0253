-- What a book's order is, as it was settled last.
use Rattle.std.specs.Prelude.{◌≡◌}
use Rattle.bk_base.specs.Feed.{FeedValue}
use Rattle.bk_results.specs.declared.fault.Fault.{Fault}
use Rattle.bk_results.specs.declared.fault.Fault.TheVariants as fault
use Rattle.bk_follow.specs.Follower.{BookValue}
use Rattle.bk_answer.specs.RunReport.{HasNoStopIn, IsStopIn}
use Rattle.bk_follow.specs.private.Books.{IsGoodBook}

-- why the order of a book was not settled, and what that leaves
abbrev pub BookOrderFails : BookValue → BookValue → Fault → Type 0
BookOrderFails old new (fault.Feed found) = ⊥
BookOrderFails old new (fault.Unfinished place) = ⊥
BookOrderFails old new (fault.Write written) = ⊥
BookOrderFails old new fault.Memory = (feed : FeedValue) → IsGoodBook feed old → HasNoStopIn feed
BookOrderFails old new stop =
    (new ≡ old) × ((feed : FeedValue) → IsGoodBook feed old → IsStopIn feed stop)
