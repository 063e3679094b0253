-- What is written of a feed, and what a call leaves that reads a feed and writes what was asked of it. `text` stands for
-- any answer: which texts, with which end, answer it of a feed.
use Rattle.std.specs.Prelude.{◌≡◌, ℕ, ◌<◌, Bool, true, List, length, take}
use Rattle.std.specs.Io.KnownBytes.{Appends}
use Rattle.bk_base.specs.Feed.{FeedValue, IsFeed}
use Rattle.bk_frames.specs.Device.{Device, Works, Fails, Receives, GaveAll}
use Rattle.bk_frames.specs.Pulling.{Refuses}
use Rattle.bk_results.specs.declared.fault.Fault.{Fault}
use Rattle.bk_results.specs.declared.fault.Fault.TheVariants as fault
use Rattle.bk_results.specs.Devices.{AreFeedWith, Devices, IsUntouched, NothingHappened}
use Rattle.bk_order.specs.Intake.{Taken}
use Rattle.bk_answer.specs.Closed.{ClosedValue, OrderValue, IsClosedFor, IsOrderedFor, IsTakenFor}
use Rattle.bk_answer.specs.RunReport.{HasPlace, IsStopped}

-- ---- a text that is written

-- the sink received a text like this
abbrev pub TextIsOut : (List ℕ → Type 0) → Device → Device → Type 0
TextIsOut is_text old new = (t : List ℕ) × is_text t × Receives old new t

-- the sink received the first bytes of a text like this, and not all
abbrev pub TextStops : (List ℕ → Type 0) → ℕ → Device → Device → Type 0
TextStops is_text written old new =
    (t : List ℕ) × is_text t × (written < length t) × Receives old new (take written t)

-- ---- what an answer writes of a feed that was closed

-- the feeds that this was made of
abbrev pub IsMadeOf : ClosedValue → FeedValue → Type 0
IsMadeOf c feed = IsFeed feed × IsClosedFor feed c

abbrev pub IsOrderMadeOf : OrderValue → FeedValue → Type 0
IsOrderMadeOf o feed = IsFeed feed × IsOrderedFor feed o

abbrev pub IsTakenOf : Taken → FeedValue → Type 0
IsTakenOf v feed = IsFeed feed × IsTakenFor feed v

-- the answer of each of these feeds was written, and no call failed
abbrev pub WritesAnswer : {E : Type 0} → (FeedValue → Type 0) → (FeedValue → E → List ℕ → Type 0) → E → Device → Device → Type 0
WritesAnswer of text end old new =
    ((feed : FeedValue) → of feed → TextIsOut (text feed end) old new) × Works old new

-- it was not: a call of the sink failed, and exactly the first bytes of an answer are out; or memory ran out, and nothing is
abbrev pub WritesNot : {E : Type 0} → (FeedValue → Type 0) → (FeedValue → E → List ℕ → Type 0) → Fault → Device → Device → Type 0
WritesNot {E} of text (fault.Write written) old new =
    ((feed : FeedValue) → of feed → (end : E) × TextStops (text feed end) written old new) × Fails old new
WritesNot of text fault.Memory old new = IsUntouched old new
WritesNot of text other old new = ⊥

-- ---- what a call leaves

-- the first bytes of an answer of the bytes are out, and not all
abbrev pub PartIsOut : {E : Type 0} → (FeedValue → E → List ℕ → Type 0) → ℕ → Device → Device → List ℕ → Type 0
PartIsOut {E} text written old new bytes =
    (end : E) × TextStops (λ t. AreFeedWith bytes (λ feed. text feed end t)) written old new

-- no call failed, the source was read to its end, and the sink received exactly the answer of the bytes that it gave
pub record IsAnswered {E : Type 0} (text : FeedValue → E → List ℕ → Type 0) (end : E) (old new : Devices) : Type 0 where
  pub source : Works old.source new.source
  pub sink : Works old.sink new.sink
  pub out : GaveAll old.source new.source
      (λ bytes. (t : List ℕ) × AreFeedWith bytes (λ feed. text feed end t) × Appends old.sink.bytes new.sink.bytes t)

-- why there is no answer, by the fault: the source is refused; the feed is stopped; a worker took a place and did not
-- finish it, where places are executed; a call of the sink failed, and exactly the first bytes of an answer are out; or
-- memory ran out. But for the sink's failure nothing is written
abbrev pub AnswerFailsBy : {E : Type 0} → (FeedValue → E → List ℕ → Type 0) → Bool → Fault → Devices → Devices → Type 0
AnswerFailsBy text executes (fault.Feed found) old new =
    Refuses found old.source new.source × IsUntouched old.sink new.sink
AnswerFailsBy text executes (fault.Unfinished place) old new =
    (executes ≡ true) × NothingHappened old new × GaveAll old.source new.source (λ bytes. HasPlace bytes place)
AnswerFailsBy text executes (fault.Write written) old new =
    Works old.source new.source × Fails old.sink new.sink
    × GaveAll old.source new.source (PartIsOut text written old.sink new.sink)
AnswerFailsBy text executes fault.Memory old new = NothingHappened old new
AnswerFailsBy text executes stop old new =
    NothingHappened old new × GaveAll old.source new.source (λ bytes. IsStopped bytes stop)
