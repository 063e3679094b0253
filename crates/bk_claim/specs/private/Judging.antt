-- What a report that is held leaves, and the verdict on a claim beside it.
use Rattle.std.specs.Prelude.{ℕ, ◌<◌, List, length, take}
use Rattle.bk_claim.specs.Claims.{GaveEnough, ShowsVerdict}
use Rattle.bk_claim.specs.declared.verdict.ClaimStop.{ClaimStop}
use Rattle.bk_claim.specs.declared.verdict.ClaimStop.TheVariants as stop
use Rattle.bk_claim.specs.declared.verdict.Verdict.{Verdict}
use Rattle.bk_answer.specs.RunReport.{IsStopped, HasPlace}
use Rattle.bk_frames.specs.Device.{Device, Works, Fails, Receives, GaveAll}
use Rattle.bk_frames.specs.Pulling.{Refuses}
use Rattle.bk_results.specs.Devices.{Devices, IsUntouched, NothingHappened}
use Rattle.bk_results.specs.declared.fault.Fault.{Fault}
use Rattle.bk_results.specs.declared.fault.Fault.TheVariants as fault
use Rattle.bk_results.specs.declared.status.Status.{Status}

-- why a report is not held: the feed is refused or stopped, a worker took a place and did not finish it, or memory ran out
abbrev pub HoldFailsBy : Fault → Device → Device → Type 0
HoldFailsBy (fault.Feed found) old new = Refuses found old new
HoldFailsBy (fault.Unfinished place) old new = Works old new × GaveAll old new (λ bytes. HasPlace bytes place)
HoldFailsBy (fault.Write written) old new = ⊥
HoldFailsBy fault.Memory old new = Works old new
HoldFailsBy found old new = Works old new × GaveAll old new (λ bytes. IsStopped bytes found)

-- the sink received the text of the verdict on a claim beside a report
abbrev pub ShownIsOut : List ℕ → Status → Verdict → Device → Device → List ℕ → Type 0
ShownIsOut right end answer old new claim =
    (text : List ℕ) × ShowsVerdict right claim end answer text × Receives old new text

-- the first bytes of it are out, and not all
abbrev pub PartOfShownIsOut : List ℕ → Status → ℕ → Device → Device → List ℕ → Type 0
PartOfShownIsOut right end written old new claim =
    (answer : Verdict) × (text : List ℕ) × ShowsVerdict right claim end answer text × (written < length text)
    × Receives old new (take written text)

-- why there is no verdict beside a report, by the fault: the sink failed, or memory ran out
abbrev pub JudgeStops : List ℕ → Status → Fault → Devices → Devices → Type 0
JudgeStops right end (fault.Write written) old new =
    Works old.source new.source × Fails old.sink new.sink
    × GaveEnough old.source new.source (PartOfShownIsOut right end written old.sink new.sink)
JudgeStops right end fault.Memory old new = NothingHappened old new
JudgeStops right end other old new = ⊥

-- or a call of the claim failed, and nothing is written
abbrev pub JudgeFailsBy : List ℕ → Status → ClaimStop → Devices → Devices → Type 0
JudgeFailsBy right end (stop.Run found) old new = JudgeStops right end found old new
JudgeFailsBy right end stop.Unread old new =
    Fails old.source new.source × IsUntouched old.sink new.sink
