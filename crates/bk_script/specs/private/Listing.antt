-- Why a text was not read.
use Rattle.bk_frames.specs.Device.{Device, Works, Fails}
use Rattle.bk_results.specs.declared.lines_fault.LinesFault.{LinesFault}
use Rattle.bk_results.specs.declared.lines_fault.LinesFault.TheVariants as fault

-- a call of the source failed, or memory ran out
abbrev pub HasNoText : LinesFault → Device → Device → Type 0
HasNoText (fault.Line line) old new = ⊥
HasNoText fault.Read old new = Fails old new
HasNoText fault.Memory old new = Works old new
