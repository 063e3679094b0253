-- What was read of a source and listed to a sink.
use Rattle.std.specs.Prelude.{◌≡◌, ℕ, ◌+◌, ◌<◌, List, [], ◌++◌, length, take, Option, Some, None}
use Rattle.bk_base.specs.declared.version.Version.{Version}
use Rattle.bk_frames.specs.declared.fault.FeedFault.{FeedFault}
use Rattle.bk_frames.specs.Device.{Device, Works, Fails, Receives}
use Rattle.bk_frames.specs.Writing.{Writes}
use Rattle.bk_base.specs.Feed.{Frame, AreGoodFrom}
use Rattle.bk_frames.specs.Cutting.{EndsShort, frames_in}
use Rattle.bk_frames.specs.Reading.{IsPulled}
use Rattle.bk_results.specs.declared.fault.Fault.{Fault}
use Rattle.bk_results.specs.declared.fault.Fault.TheVariants as fault
use Rattle.bk_results.specs.Devices.{Devices, IsUntouched}
use Rattle.bk_listing.specs.Listing.{IsListing}
use Rattle.bk_listing.specs.declared.listing.FrameReader.{FrameReader}
use Rattle.bk_listing.specs.declared.lister.Lister.{Lister}
use Rattle.bk_listing.specs.private.FrameRow.{HasListed}

-- a version that is known, or any while none is
abbrev pub CanBe : Option Version → Version → Type 0
CanBe None version = Unit {0}
CanBe (Some known) version = known ≡ version

-- the frames that wait
abbrev pub waiting : FrameReader → List Frame
waiting r = frames_in r.frames.items

-- these frames are listed in this text, in the version of the feed, once that is known
abbrev pub AreListed : List Frame → List ℕ → FrameReader → Lister → Type 0
AreListed taken text r l = (v : Version) → CanBe r.cutter.version v → HasListed v taken text l

-- after these frames those that wait can be listed
pub record CanList (taken : List Frame) (text : List ℕ) (r : FrameReader) (l : Lister) : Type 0 where
  pub listed : AreListed taken text r l
  pub written : l.written ≡ length text
  pub good : (v : Version) → r.cutter.version ≡ Some v → AreGoodFrom v 0 4 (taken ++ waiting r)
  pub none : r.cutter.version ≡ None → waiting r ≡ []

-- no frame waits any more
pub record IsEmptied (old new : FrameReader) : Type 0 where
  pub cutter : new.cutter ≡ old.cutter
  pub none_waits : new.frames.items ≡ []

-- the frames that waited are listed: after a text that is out these lines are
pub record ListsWaiting (taken : List Frame) (text : List ℕ) (r : FrameReader) (l : Lister) (old new : Device) : Type 0 where
  pub lines : List ℕ
  pub out : Writes lines old new
  pub listed : AreListed (taken ++ waiting r) (text ++ lines) r l
  pub written : l.written ≡ length (text ++ lines)

-- why they are not: the sink failed in these lines, or memory ran out and nothing more is out
abbrev pub WaitingFails : Fault → List Frame → List ℕ → FrameReader → Device → Device → Type 0
WaitingFails (fault.Write written) taken text r old new =
    Fails old new × (v : Version) × (r.cutter.version ≡ Some v) × (lines : List ℕ) × IsListing v (taken ++ waiting r) (text ++ lines)
    × (part : ℕ) × (written ≡ length text + part) × (part < length lines) × Receives old new (take part lines)
WaitingFails fault.Memory taken text r old new = IsUntouched old new
WaitingFails other taken text r old new = ⊥

-- what is left where a fault of the feed was found: it, with all frames before it listed, or why they are not
abbrev pub LeavesBy : FeedFault → Fault → List Frame → List ℕ → FrameReader → Lister → Device → Device → Type 0
LeavesBy found (fault.Feed f) taken text r l old new = (f ≡ found) × ListsWaiting taken text r l old new
LeavesBy found (fault.Write written) taken text r l old new = WaitingFails (fault.Write written) taken text r old new
LeavesBy found fault.Memory taken text r l old new = WaitingFails fault.Memory taken text r old new
LeavesBy found other taken text r l old new = ⊥

-- why a feed was not listed whole though all its bytes came: it ends too early, after the frames that are listed; or the
-- last frames are not listed
abbrev pub EndsBy : Fault → List Frame → List ℕ → FrameReader → Lister → Device → Device → Type 0
EndsBy (fault.Feed found) taken text r l old new = EndsShort r.cutter found × ListsWaiting taken text r l old new
EndsBy (fault.Write written) taken text r l old new = WaitingFails (fault.Write written) taken text r old new
EndsBy fault.Memory taken text r l old new = WaitingFails fault.Memory taken text r old new
EndsBy other taken text r l old new = ⊥

-- of what a source gave these frames are listed, and exactly their text went to the sink
pub record HasShown (old now : Devices) (r : FrameReader) (l : Lister) : Type 0 where
  pub taken : List Frame
  pub text : List ℕ
  pub bytes : List ℕ
  pub pulled : IsPulled old.source now.source bytes (taken ++ waiting r) r.cutter
  pub listed : AreListed taken text r l
  pub written : l.written ≡ length text
  pub works : Works old.sink now.sink
  pub out : Receives old.sink now.sink text
