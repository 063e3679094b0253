-- What a call that lists the frames of a source leaves.
use Rattle.std.specs.Prelude.{◌≡◌, ◌⊎◌, ℕ, ◌<◌, List, [], length, take, Option}
use Rattle.bk_frames.specs.Device.{Device, Works, Fails, Receives}
use Rattle.bk_base.specs.Feed.{FeedValue, IsFeed, spelling}
use Rattle.bk_frames.specs.FirstFault.{Begins}
use Rattle.bk_frames.specs.Pulling.{Refuses, Gave}
use Rattle.bk_results.specs.declared.fault.Fault.{Fault}
use Rattle.bk_results.specs.declared.fault.Fault.TheVariants as fault
use Rattle.bk_results.specs.Devices.{AreFeedWith, Devices}
use Rattle.bk_results.specs.declared.wrong_tag.WrongTag.{WrongTag}
use Rattle.bk_listing.specs.Listing.{IsListing}
use Rattle.bk_listing.specs.Forged.{IsFirstForgedOf}
use Rattle.bk_listing.specs.Rejects.{IsRejectedCount}

-- the listing of the good frames that bytes begin with and that end at this offset; no text at 0, where the magic is not
-- whole
pub data IsListingTo (bytes : List ℕ) (offset : ℕ) (text : List ℕ) : Type 0 where
  no_frames : offset ≡ 0 → text ≡ [] → IsListingTo bytes offset text
  of_frames : (front : FeedValue) (rest : List ℕ) → Begins bytes front rest → offset ≡ length (spelling front)
      → IsListing front.version front.frames text → IsListingTo bytes offset text

-- the bytes are a feed, and the sink received the listing of all of its frames
abbrev pub AllIsListed : Device → Device → List ℕ → Type 0
AllIsListed old new bytes =
    (feed : FeedValue) × IsFeed feed × (bytes ≡ spelling feed)
    × (text : List ℕ) × IsListing feed.version feed.frames text × Receives old new text

-- the bytes are a feed, and this many of its frames are rejected
abbrev pub HasRejected : ℕ → List ℕ → Type 0
HasRejected rejected bytes = AreFeedWith bytes (λ feed. IsRejectedCount feed.version feed.frames rejected)

-- the bytes are a feed, and this is its first certificate that is rejected for its tags, if any, with whose tag is wrong
abbrev pub HasForged : Option WrongTag → List ℕ → Type 0
HasForged found bytes = AreFeedWith bytes (λ feed. IsFirstForgedOf feed.version feed.frames found)

-- of the bytes that came the sink received the listing of the frames before this offset
abbrev pub IsListedTo : ℕ → Device → Device → List ℕ → Type 0
IsListedTo offset old new given = (text : List ℕ) × IsListingTo given offset text × Receives old new text

-- the same up to some offset
abbrev pub FrontIsListed : Device → Device → List ℕ → Type 0
FrontIsListed old new given = (offset : ℕ) × IsListedTo offset old new given

-- of the listing of frames that the bytes begin with the first bytes are out, and not all
abbrev pub PartIsListed : ℕ → Device → Device → List ℕ → Type 0
PartIsListed written old new given =
    (offset : ℕ) × (text : List ℕ) × IsListingTo given offset text × (written < length text)
    × Receives old new (take written text)

-- at most one call of a device failed
abbrev pub FailsOnceAtMost : Device → Device → Type 0
FailsOnceAtMost old new = Works old new ⊎ Fails old new

-- why not all frames are listed, by the fault: the source is refused, and exactly the lines of the whole frames before
-- the fault are out; a call of the sink failed, and exactly the first bytes of such lines are out; or memory ran out, and
-- some of them are. A source that failed may have come before the last two, while its last frames were listed
abbrev pub ListFails : Fault → Devices → Devices → Type 0
ListFails (fault.Feed found) old new =
    Refuses found old.source new.source × Works old.sink new.sink
    × Gave old.source new.source (IsListedTo found.offset old.sink new.sink)
ListFails (fault.Write written) old new =
    FailsOnceAtMost old.source new.source × Fails old.sink new.sink
    × Gave old.source new.source (PartIsListed written old.sink new.sink)
ListFails fault.Memory old new =
    FailsOnceAtMost old.source new.source × Works old.sink new.sink
    × Gave old.source new.source (FrontIsListed old.sink new.sink)
ListFails other old new = ⊥
