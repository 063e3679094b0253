-- Frames that are judged before they are taken.
use Rattle.std.specs.Prelude.{ℕ, List}
use Rattle.bk_base.specs.Feed.{Frame}
use Rattle.bk_committee.specs.Payload.{CommitteeValue}

-- frames that are judged, and the committee that they are judged by
pub record JudgedValue : Type 0 where
  pub committee : CommitteeValue
  pub frames : List Frame

-- the groups of frames that are judged, in the order of the feed, the committee that they are judged by, and how many
-- groups are judged before the first is taken
pub record AheadValue : Type 0 where
  pub committee : CommitteeValue
  pub most : ℕ
  pub groups : List (List Frame)
