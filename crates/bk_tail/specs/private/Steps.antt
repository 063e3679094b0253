-- One piece of a feed that is followed.
use Rattle.std.specs.Prelude.{◌≡◌, ◌<◌, ◌≤◌, ℕ, Bool, true, false, List, [], length, take, Some}
use Rattle.std.specs.Io.KnownBytes.{IsAtEnd}
use Rattle.bk_base.specs.Feed.{Frame}
use Rattle.bk_commit.specs.Growth.{IsPrefix}
use Rattle.bk_frames.specs.Device.{Device, Ends, Fails, Works, Gives, IfKnown, ends_of}
use Rattle.bk_frames.specs.declared.fault.FaultCode.TheVariants as code
use Rattle.bk_frames.specs.Pulling.{Gave, Refuses}
use Rattle.bk_results.specs.declared.fault.Fault.{Fault}
use Rattle.bk_results.specs.declared.fault.Fault.TheVariants as fault
use Rattle.bk_answer.specs.RunReport.{HasPlaceIn, IsStopIn}
use Rattle.bk_follow.specs.Follower.{BookValue, Followed, HasCome, IsCurrent, IsSettled}
use Rattle.bk_follow.specs.Finishing.{EndsAs}
use Rattle.bk_tail.specs.Tailing.{OfWholeFrames}

-- so many bytes came into a buffer, and no call failed: none only at the end of the source, and some where it is waited for
pub record CameIn (waits : Bool) (old new : Device) (buf : List ℕ) (n : ℕ) : Type 0 where
  pub bound : n ≤ length buf
  pub came : Gives old new (take n buf)
  pub works : Works old new
  pub some : waits ≡ true → 0 < n
  pub end : n ≡ 0 → IsAtEnd new.bytes
  pub ends : waits ≡ false → Ends (ends_of n 1) old new

-- the source failed in the frame that begins at this offset, and gave nothing
pub record PullFails (waits : Bool) (offset : ℕ) (old new : Device) (f : Fault) : Type 0 where
  pub fault : f ≡ fault.Feed (record { offset = offset; code = code.Read })
  pub kept : Gives old new []
  pub goes_on : waits ≡ false → Ends 0 old new
  pub fails : Fails old new

-- since `start` a source gave these bytes, no call of it failed, and a Follower took them: these frames are whole
pub record HasFollowed (start now : Device) (bytes : List ℕ) (frames : List Frame) (v : Followed) : Type 0 where
  pub works : Works start now
  pub gave : Gives start now bytes
  pub come : HasCome bytes frames v

-- what came is a feed, and the order of all of it was executed
abbrev pub IsWholeFeed : List ℕ → List Frame → Followed → Type 0
IsWholeFeed bytes frames v = EndsAs bytes frames v (λ feed. (b : BookValue) × (v.book ≡ Some b) × IsCurrent feed b)

-- more came after these bytes and frames, and all of it is settled; at its end the source had no more, and it is a feed
pub record Advanced (start now : Device) (bytes : List ℕ) (frames : List Frame) (v : Followed) (ended : Bool) : Type 0 where
  pub all : List ℕ
  pub whole : List Frame
  pub longer : IsPrefix bytes all
  pub more : IsPrefix frames whole
  pub followed : HasFollowed start now all whole v
  pub settled : IsSettled whole v
  pub ends : ended ≡ true → IfKnown start (λ given. given ≡ all) × IsWholeFeed all whole v

-- the source ended once, or did not
abbrev pub EndsIf : Bool → Device → Device → Type 0
EndsIf true old new = Ends 1 old new
EndsIf false old new = Ends 0 old new

-- this holds of the bytes that a source gave, which begin with these
abbrev pub GaveAfter : Device → Device → List ℕ → (List ℕ → Type 0) → Type 0
GaveAfter start now bytes holds = Gave start now (λ given. IsPrefix bytes given × holds given)

-- why a feed was not followed further, after these bytes, of whose order so many places were executed
abbrev pub AdvanceFails : Fault → Device → Device → List ℕ → ℕ → Type 0
AdvanceFails (fault.Feed found) start now bytes executed =
    Refuses found start now × GaveAfter start now bytes (λ given. Unit {0})
AdvanceFails (fault.Unfinished place) start now bytes executed =
    (executed ≤ place) × Works start now
    × GaveAfter start now bytes (λ given. OfWholeFrames given (λ feed. HasPlaceIn feed place))
AdvanceFails (fault.Write written) start now bytes executed = ⊥
AdvanceFails fault.Memory start now bytes executed = Works start now × GaveAfter start now bytes (λ given. Unit {0})
AdvanceFails stop start now bytes executed =
    Works start now × GaveAfter start now bytes (λ given. OfWholeFrames given (λ feed. IsStopIn feed stop))
