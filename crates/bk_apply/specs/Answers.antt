-- What `apply` writes, and what it leaves where there is no report.
use Rattle.std.specs.Prelude.{ℕ, ◌<◌, List, length, take}
use Rattle.bk_frames.specs.Device.{Device, Works, Fails, Receives, GaveAll}
use Rattle.bk_frames.specs.Pulling.{Refuses}
use Rattle.bk_results.specs.declared.fault.Fault.{Fault}
use Rattle.bk_results.specs.declared.fault.Fault.TheVariants as fault
use Rattle.bk_results.specs.Devices.{Devices, IsUntouched, AreFeed}
use Rattle.bk_report.specs.Report.{IsApplyReport}

-- the sink received exactly the apply report of the bytes
abbrev pub ReportIsOut : Device → Device → List ℕ → Type 0
ReportIsOut old new bytes = (text : List ℕ) × IsApplyReport bytes text × Receives old new text

-- the first bytes of the report are out, and not all
abbrev pub PartIsOut : ℕ → Device → Device → List ℕ → Type 0
PartIsOut written old new bytes =
    (text : List ℕ) × IsApplyReport bytes text × (written < length text) × Receives old new (take written text)

-- why there is no report, by the fault: the source is refused and nothing is written; or a call of the sink failed and
-- exactly the first bytes of the report are out; or memory ran out after a whole feed was read, and nothing is written
abbrev pub FailsBy : Fault → Devices → Devices → Type 0
FailsBy (fault.Feed found) old new = Refuses found old.source new.source × IsUntouched old.sink new.sink
FailsBy (fault.Write written) old new =
    Works old.source new.source × Fails old.sink new.sink
    × GaveAll old.source new.source (PartIsOut written old.sink new.sink)
FailsBy fault.Memory old new =
    Works old.source new.source × GaveAll old.source new.source AreFeed × IsUntouched old.sink new.sink
FailsBy other old new = ⊥
