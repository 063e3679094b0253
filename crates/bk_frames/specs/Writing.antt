-- What writing to a sink leaves.
use Rattle.std.specs.Prelude.{ℕ, ◌<◌, List, length, take}
use Rattle.bk_frames.specs.declared.writing.WriteFault.{WriteFault}
use Rattle.bk_frames.specs.Device.{Device, Works, Fails, Receives}

-- the sink received all of these bytes, and none of its calls failed
abbrev pub Writes : List ℕ → Device → Device → Type 0
Writes bytes old new = Works old new × Receives old new bytes

-- a call of the sink failed, and it received the first `written` of these bytes, which are not all
pub record StopsWriting (fault : WriteFault) (bytes : List ℕ) (old new : Device) : Type 0 where
  pub fails : Fails old new
  pub short : fault.written < length bytes
  pub out : Receives old new (take fault.written bytes)
