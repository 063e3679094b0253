-- A feed whose bytes are cut before their frames are taken.
use Rattle.std.specs.Prelude.{◌≡◌, ◌<◌, ℕ, List, [], ◌++◌, Option, None, Some, Bool, true, false, Result, Ok, Err}
use Rattle.bk_frames.specs.Device.{Device, Works, Gives, GaveAll, Ends, IsWhole}
use Rattle.bk_base.specs.Feed.{Frame}
use Rattle.bk_frames.specs.Cutting.{Cut, Cuts, CutsInto, IsOpen, fresh, frames_in}
use Rattle.bk_frames.specs.Pulling.{Refuses}
use Rattle.bk_frames.specs.Reading.{IsPulled, Pulls, room_of}
use Rattle.bk_frames.specs.declared.fault.FeedFault.{FeedFault}
use Rattle.bk_base.specs.declared.kind.Kind.{Kind}
use Rattle.bk_base.specs.declared.version.Version.{Version}
use Rattle.std.specs.Global.{Vec}
use Rattle.bk_follow.specs.declared.gathering.Inbox.{Inbox}
use Rattle.bk_follow.specs.declared.opening.Opened.{Opened}
use Rattle.bk_follow.specs.Follower.{Follows, FollowsBy}
use Rattle.bk_follow.specs.private.Books.{HasFollowed}

-- these bytes came and are cut: of the frames that they make whole these are taken, and the others are left
pub record HasGathered (bytes : List ℕ) (taken left : List Frame) (g : Inbox) : Type 0 where
  pub cuts : Cuts fresh bytes (taken ++ left) g.cutter
  pub is_open : IsOpen g.cutter
  pub reads : g.cutter.fault ≡ None
  pub follows : Follows g.cutter.version taken g.opened.committee g.opened.book

-- since `start` a source gave bytes that have all come here, these frames of them are left, and no call of it failed
pub record HasPulled (start now : Device) (left : List Frame) (g : Inbox) : Type 0 where
  pub bytes : List ℕ
  pub taken : List Frame
  pub works : Works start now
  pub gave : Gives start now bytes
  pub come : HasGathered bytes taken left g

-- all bytes of the source have come, and these frames of them are left
abbrev pub HasPulledAll : Device → Device → List Frame → Inbox → Type 0
HasPulledAll start now left g = GaveAll start now (λ bytes. (taken : List Frame) × HasGathered bytes taken left g)

-- the frames that are left are taken
abbrev pub TakesAll : List Frame → Inbox → Inbox → Type 0
TakesAll left old new =
    (bytes : List ℕ) (taken : List Frame) → HasGathered bytes taken left old → (all : List Frame) × HasGathered bytes all [] new

-- the next frames can be taken, in a version once it is known
abbrev pub CanTake : Option Version → List Frame → Opened → Type 0
CanTake None next o = Unit {0}
CanTake (Some version) next o =
    (before : List Frame) × HasFollowed version before next o.committee o.book

-- they were taken after those before them; before the version is known nothing was
abbrev pub TakesNext : Option Version → List Frame → Opened → Opened → Type 0
TakesNext None next old new = new ≡ old
TakesNext (Some version) next old new =
    (before : List Frame) → FollowsBy version before old.committee old.book
    → FollowsBy version (before ++ next) new.committee new.book

-- what a source gave has come, and after some frames these wait
abbrev pub CanPull : Device → List (Kind × Vec ℕ) → Cut → Type 0
CanPull now waiting c =
    (start : Device) × (bytes : List ℕ) × (taken : List Frame)
    × IsPulled start now bytes (taken ++ frames_in waiting) c

-- what is known of a pull holds for each of these
abbrev pub OfPulled : Device → List (Kind × Vec ℕ) → Cut → (Device → List ℕ → List Frame → Type 0) → Type 0
OfPulled now waiting c holds =
    (start : Device) (bytes : List ℕ) (taken : List Frame)
    → IsPulled start now bytes (taken ++ frames_in waiting) c → holds start bytes taken

-- a group of frames was pulled and put behind those that wait: all that the source had, at its end
pub record PullsGroup (old new : Device) (before after : List (Kind × Vec ℕ)) (c d : Cut) (end : Bool) : Type 0 where
  pub cuts : (came : List ℕ) × CutsInto c came before after d
  pub pulls : OfPulled old before c (λ start bytes taken. (count : ℕ) × Pulls start new bytes (taken ++ frames_in after) d count)
  pub all : end ≡ true → OfPulled old before c (λ start bytes taken. Ends 0 start old
      → (given : List ℕ) × IsWhole start new given × IsPulled start new given (taken ++ frames_in after) d)
  pub goes_on : end ≡ false → Ends 0 old new
  pub nearer : end ≡ false → room_of d < room_of c

-- what came of pulling a group
abbrev pub HasPulledGroup : Result Bool FeedFault → Device → Device → List (Kind × Vec ℕ) → List (Kind × Vec ℕ) → Cut → Cut → Type 0
HasPulledGroup (Ok end) old new before after c d = PullsGroup old new before after c d end
HasPulledGroup (Err fault) old new before after c d = OfPulled old before c (λ start bytes taken. Refuses fault start new)
