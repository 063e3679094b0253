-- The opening accounts of a feed that is being read.
use Rattle.std.specs.Prelude.{◌≡◌, ◌+◌, ◌<◌, ◌≤◌, List, ◌∷◌, length, Option, MatchOption}
use Rattle.std.specs.Global.{Vec}
use Rattle.bk_frames.specs.declared.fault.FaultCode.TheVariants as code
use Rattle.bk_frames.specs.declared.fault.FeedFault.{FeedFault}
use Rattle.bk_base.specs.declared.genesis.Row.{Row}
use Rattle.bk_base.specs.Feed.{Frame, genesis_of}

-- these are the opening accounts of the frames, none while frame 1 is not there
abbrev pub IsOpening : List Frame → Option (Vec Row) → Type 0
IsOpening frames genesis =
    MatchOption genesis (length frames < 2) (λ rows. (2 ≤ length frames) × (rows.items ≡ genesis_of frames))

-- memory ran out for the accounts of frame 1
pub record CallsForAccounts (frames : List Frame) (fault : FeedFault) : Type 0 where
  pub first : Frame
  pub second : Frame
  pub more : List Frame
  pub are : frames ≡ first ∷ second ∷ more
  pub is : fault ≡ record { offset = 9 + length first.payload; code = code.Memory }
