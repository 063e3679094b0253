-- At which missing batch the order of a feed stops.
use Rattle.std.specs.Prelude.{◌≡◌, ℕ, List, Option}
use Rattle.bk_base.specs.Feed.{FeedValue}
use Rattle.bk_results.specs.Devices.{AreFeedWith}
use Rattle.bk_order.specs.Orders.{Ordered}
use Rattle.bk_answer.specs.RunReport.{HasNoStopIn, IsOrderIn}

-- nothing stops a feed, and this is the first missing batch of its order, if one is missing
pub record IsGapIn (feed : FeedValue) (missing : Option (List ℕ)) : Type 0 where
  pub clear : HasNoStopIn feed
  pub ordered : Ordered
  pub order : IsOrderIn feed ordered
  pub missing_is : missing ≡ ordered.payloads.missing

-- the bytes are the encoding of such a feed
abbrev pub IsGap : List ℕ → Option (List ℕ) → Type 0
IsGap bytes missing = AreFeedWith bytes (λ feed. IsGapIn feed missing)
