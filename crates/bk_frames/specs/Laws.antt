-- What the definitions of a feed say together.
use Rattle.std.specs.Prelude.{◌≡◌, ◌≢◌, ℕ, ◌≤◌, List, [], ◌++◌, length, take, Some, None, ◌⊎◌}
use Rattle.bk_base.specs.declared.version.Version.{Version}
use Rattle.bk_frames.specs.declared.fault.FaultCode.TheVariants as code
use Rattle.bk_frames.specs.declared.fault.FeedFault.{FeedFault}
use Rattle.bk_frames.specs.declared.pulling.TheConstants.{PIECE}
use Rattle.bk_base.specs.Feed.{Frame, FeedValue, frame_text, feed_of, IsFeed, spelling}
use Rattle.bk_frames.specs.FirstFault.{Begins, HasFault}
use Rattle.bk_base.specs.Numbers.{IsBytes}
use Rattle.bk_frames.specs.Pulling.{StopsAt, IsPartAt, CallsForMemoryAt, FrontCallsForMemoryAt}
use Rattle.bk_frames.specs.Cutting.{Cut, fresh, Cuts, IsOpen, ShowsFault, Reaches, EndsShort}

-- the bytes are the encoding of a feed, or have a fault
abbrev pub IsFeedOrHasFault : List ℕ → Type 0
IsFeedOrHasFault bytes = ((feed : FeedValue) × IsFeed feed × (bytes ≡ spelling feed)) ⊎ ((fault : FeedFault) × HasFault bytes fault)

-- every byte string is the encoding of a feed or has a fault
abbrev pub IsFeedOrFault : Type 0
IsFeedOrFault = (bytes : List ℕ) → IsBytes bytes → IsFeedOrHasFault bytes

-- no byte string is the encoding of two feeds
abbrev pub OneFeed : Type 0
OneFeed = (feed other : FeedValue) → IsFeed feed → IsFeed other → spelling feed ≡ spelling other → feed ≡ other

-- no feed's encoding has a fault
abbrev pub NoFaultInFeed : Type 0
NoFaultInFeed = (feed : FeedValue) (fault : FeedFault) → IsFeed feed → ¬ HasFault (spelling feed) fault

-- no byte string has two faults
abbrev pub OneFault : Type 0
OneFault = (bytes : List ℕ) (one other : FeedFault) → HasFault bytes one → HasFault bytes other → one ≡ other

-- no byte string stops at two offsets
abbrev pub OneStop : Type 0
OneStop = (bytes : List ℕ) (one other : ℕ) → StopsAt bytes one → StopsAt bytes other → one ≡ other

-- no byte string calls for memory at two offsets
abbrev pub OneCallForMemory : Type 0
OneCallForMemory = (bytes : List ℕ) (one other : ℕ) → CallsForMemoryAt bytes one → CallsForMemoryAt bytes other → one ≡ other

-- a part of a frame has the frame's kind and length
abbrev pub PartIsMeasured : Type 0
PartIsMeasured = (index offset : ℕ) (part : List ℕ) (p : IsPartAt index offset part) → take 5 part ≡ take 5 (frame_text p.frame)

-- ---- pieces

-- pieces that came in turn are one piece
abbrev pub PiecesJoin : Type 0
PiecesJoin = (a b c : Cut) (p q : List ℕ) (out more : List Frame) → Cuts a p out b → Cuts b q more c → Cuts a (p ++ q) (out ++ more) c

-- once the magic is whole, all bytes are the magic, the frames handed out and what is kept
abbrev pub BytesSoFar : Type 0
BytesSoFar = (bytes : List ℕ) (frames : List Frame) (c : Cut) (version : Version) → Cuts fresh bytes frames c → c.version ≡ Some version
    → Begins bytes (feed_of version frames) c.kept × (c.index ≡ length frames) × (c.offset ≡ length (spelling (feed_of version frames)))

-- and before it is, no frame is handed out and all bytes are kept
abbrev pub NoneBeforeMagic : Type 0
NoneBeforeMagic = (bytes : List ℕ) (frames : List Frame) (c : Cut) → Cuts fresh bytes frames c → c.version ≡ None
    → (frames ≡ []) × (bytes ≡ c.kept) × (c.index ≡ 0) × (c.offset ≡ 0)

-- a fault that shows is that of all bytes
abbrev pub FaultIsTheFeeds : Type 0
FaultIsTheFeeds = (bytes came : List ℕ) (frames : List Frame) (c : Cut) (fault : FeedFault)
    → Cuts fresh bytes frames c → ShowsFault c came fault → HasFault (bytes ++ came) fault

-- where memory ran out in a frame, a front of all bytes calls for memory there
abbrev pub MemoryIsTheFeeds : Type 0
MemoryIsTheFeeds = (bytes came : List ℕ) (frames : List Frame) (c : Cut) (offset : ℕ)
    → Cuts fresh bytes frames c → Reaches c came offset → length came ≤ PIECE → FrontCallsForMemoryAt (bytes ++ came) offset

-- bytes that end where a frame ends are a feed, once the genesis is whole
abbrev pub EndsAsFeed : Type 0
EndsAsFeed = (bytes : List ℕ) (frames : List Frame) (c : Cut) → Cuts fresh bytes frames c → c.kept ≡ [] → 2 ≤ c.index
    → (version : Version) × (c.version ≡ Some version) × IsFeed (feed_of version frames) × (bytes ≡ spelling (feed_of version frames))

-- other bytes are cut short
abbrev pub EndsCutShort : Type 0
EndsCutShort = (bytes : List ℕ) (frames : List Frame) (c : Cut) (fault : FeedFault) → Cuts fresh bytes frames c → EndsShort c fault → HasFault bytes fault

-- a source that fails now stops in the frame that is being read
abbrev pub StopsInWhatIsRead : Type 0
StopsInWhatIsRead = (bytes : List ℕ) (frames : List Frame) (c : Cut) → Cuts fresh bytes frames c → IsOpen c → StopsAt bytes c.offset

-- a fault other than that the bytes end too early stays, however the bytes go on
abbrev pub FaultStays : Type 0
FaultStays = (bytes more : List ℕ) (fault : FeedFault) → HasFault bytes fault → fault.code ≢ code.Truncated → HasFault (bytes ++ more) fault

-- good frames that bytes begin with stay, however the bytes go on
abbrev pub FramesStay : Type 0
FramesStay = (bytes rest more : List ℕ) (front : FeedValue) → Begins bytes front rest → Begins (bytes ++ more) front (rest ++ more)
