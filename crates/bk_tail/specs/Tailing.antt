-- What following a feed leaves, while its table is written as it becomes final. `text` stands for any table: which texts, with
-- which end, are that of a feed.
use Rattle.std.specs.Prelude.{◌≡◌, ◌≢◌, ◌⊎◌, ℕ, Bool, true, false, List, [], Some}
use Rattle.bk_base.specs.Feed.{FeedValue, IsFeed, spelling}
use Rattle.bk_commit.specs.Growth.{IsPrefix}
use Rattle.bk_frames.specs.Cutting.{Cut, Cuts, IsOpen, fresh}
use Rattle.bk_frames.specs.Device.{Device, Works, Ends, Fails, Receives}
use Rattle.bk_frames.specs.Pulling.{Gave, Refuses}
use Rattle.bk_frames.specs.declared.fault.FaultCode.TheVariants as code
use Rattle.bk_results.specs.Devices.{Devices}
use Rattle.bk_results.specs.declared.fault.Fault.{Fault}
use Rattle.bk_results.specs.declared.fault.Fault.TheVariants as fault
use Rattle.bk_results.specs.declared.status.Status.{Status}
use Rattle.bk_answer.specs.Answers.{TextIsOut, TextStops}
use Rattle.bk_answer.specs.RunReport.{HasPlaceIn, IsStopIn}

-- ---- the frames that came

-- the whole frames of these bytes are those of the feed, and what follows them is no whole frame
abbrev pub HasWholeFrames : List ℕ → FeedValue → Type 0
HasWholeFrames bytes feed =
    (cut : Cut) × Cuts fresh bytes feed.frames cut × IsOpen cut × (cut.version ≡ Some feed.version)

-- this holds of the feed that the whole frames of these bytes are
abbrev pub OfWholeFrames : List ℕ → (FeedValue → Type 0) → Type 0
OfWholeFrames bytes holds = (feed : FeedValue) × HasWholeFrames bytes feed × holds feed

-- the encoding of a feed begins these bytes
abbrev pub FeedBegins : FeedValue → List ℕ → Type 0
FeedBegins feed bytes = IsFeed feed × IsPrefix (spelling feed) bytes

-- ---- what is out

-- nothing is out, or the whole table of a feed that begins these bytes, and no call of the sink failed
abbrev pub TableSoFar : (FeedValue → Status → List ℕ → Type 0) → Device → Device → List ℕ → Type 0
TableSoFar text old new bytes =
    Works old new
    × (Receives old new []
    ⊎ ((feed : FeedValue) × FeedBegins feed bytes × (end : Status) × TextIsOut (text feed end) old new))

-- the same, and the table that is out has no row of this place: its feed's order has no transaction there
abbrev pub TableBefore : (FeedValue → Status → List ℕ → Type 0) → ℕ → Device → Device → List ℕ → Type 0
TableBefore text place old new bytes =
    Works old new
    × (Receives old new []
    ⊎ ((feed : FeedValue) × FeedBegins feed bytes × (HasPlaceIn feed place → ⊥) × (end : Status)
    × TextIsOut (text feed end) old new))

-- exactly the first `written` bytes of the table of a feed are out, and not all
abbrev pub TableStops : (FeedValue → Status → List ℕ → Type 0) → ℕ → Device → Device → FeedValue → Type 0
TableStops text written old new feed = (end : Status) × TextStops (text feed end) written old new

-- ---- why it ended

-- why a table was not written to the end of its feed, by the fault: the source is refused; a worker took a place of the whole
-- frames so far, of which no row is out, and did not finish it; a call of the sink failed, and exactly the first bytes of the table of the whole frames
-- so far are out; memory ran out; or the whole frames so far are stopped. But for the sink's failure nothing is out, or the
-- whole table of a feed that begins the bytes that the source gave
abbrev pub TailFailsBy : (FeedValue → Status → List ℕ → Type 0) → Fault → Devices → Devices → Type 0
TailFailsBy text (fault.Feed found) old new =
    Refuses found old.source new.source × Gave old.source new.source (TableSoFar text old.sink new.sink)
TailFailsBy text (fault.Unfinished place) old new =
    Works old.source new.source
    × Gave old.source new.source (λ bytes.
    TableBefore text place old.sink new.sink bytes × OfWholeFrames bytes (λ feed. HasPlaceIn feed place))
TailFailsBy text (fault.Write written) old new =
    Works old.source new.source × Fails old.sink new.sink
    × Gave old.source new.source (λ bytes. OfWholeFrames bytes (TableStops text written old.sink new.sink))
TailFailsBy text fault.Memory old new =
    Works old.source new.source × Gave old.source new.source (TableSoFar text old.sink new.sink)
TailFailsBy text stop old new =
    Works old.source new.source
    × Gave old.source new.source (λ bytes.
    TableSoFar text old.sink new.sink bytes × OfWholeFrames bytes (λ feed. IsStopIn feed stop))

-- how often the source ended where a table was not written to the end of its feed, by whether it was waited for: a source that
-- is waited for has no end, so no feed is said to end too early; one that is not ended once at most
abbrev pub EndsAsAsked : Bool → Fault → Device → Device → Type 0
EndsAsAsked true f old new = (offset : ℕ) → f ≢ fault.Feed (record { offset = offset; code = code.Truncated })
EndsAsAsked false f old new = Ends 0 old new ⊎ Ends 1 old new
