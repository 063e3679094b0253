-- A feed of which frames are judged ahead of those that are taken.
use Rattle.std.specs.Prelude.{◌≡◌, List, ◌++◌, flat_map, Option, None, Some}
use Rattle.bk_base.specs.declared.version.Version.{Version}
use Rattle.bk_base.specs.Feed.{Frame}
use Rattle.bk_committee.specs.Payload.{CommitteeValue}
use Rattle.bk_frames.specs.Device.{Device}
use Rattle.bk_order.specs.Ahead.{AheadValue, JudgedValue}
use Rattle.bk_follow.specs.declared.gathering.Inbox.{Inbox}
use Rattle.bk_follow.specs.declared.opening.Opened.{Opened}
use Rattle.bk_follow.specs.Follower.{BookValue, FollowsBy}
use Rattle.bk_follow.specs.private.Books.{HasFollowed}
use Rattle.bk_follow.specs.private.Gathering.{HasPulled}

-- the book is open
abbrev pub HasBook : Opened → Type 0
HasBook o = (b : BookValue) × (o.book ≡ Some b)

-- a book of this committee is open
abbrev pub IsOpenFor : CommitteeValue → Opened → Type 0
IsOpenFor k o = (b : BookValue) × (o.book ≡ Some b) × (b.taken.committee ≡ k)

-- the frames of all groups
abbrev pub frames_ahead : AheadValue → List Frame
frames_ahead a = flat_map (λ fs. fs) a.groups

-- since `start` a source gave bytes that have all come to a book that is open: these frames of them are judged, and all
-- before them taken
abbrev pub HasPulledAhead : Device → Device → AheadValue → Inbox → Type 0
HasPulledAhead start now a g = HasPulled start now (frames_ahead a) g × IsOpenFor a.committee g.opened

-- frames that were judged can be taken, if there are any
abbrev pub CanTakeJudged : Option JudgedValue → Opened → Type 0
CanTakeJudged None o = Unit {0}
CanTakeJudged (Some j) o =
    IsOpenFor j.committee o
    × ((version : Version) × (before : List Frame) × HasFollowed version before j.frames o.committee o.book)

-- they were taken after those before them
abbrev pub TakesJudged : Option JudgedValue → Opened → Opened → Type 0
TakesJudged None old new = new ≡ old
TakesJudged (Some j) old new =
    IsOpenFor j.committee new
    × ((version : Version) (before : List Frame) → FollowsBy version before old.committee old.book
    → FollowsBy version (before ++ j.frames) new.committee new.book)
