-- What a check of a chain leaves of its source and its sink.
use Rattle.std.specs.Prelude.{◌≡◌, ℕ, ◌<◌, List, length, take}
use Rattle.bk_frames.specs.Device.{Device, Works, Fails, GaveAll, Receives}
use Rattle.bk_results.specs.Devices.{Devices, IsUntouched, OfText}
use Rattle.bk_chain.specs.declared.fault.ChainFault.{ChainFault}
use Rattle.bk_chain.specs.declared.fault.ChainFault.TheVariants as fault
use Rattle.bk_chain.specs.declared.reading.TheConstants.{MOST_LINKS}
use Rattle.bk_chain.specs.declared.verdict.ChainEnd.{ChainEnd}
use Rattle.bk_chain.specs.declared.verdict.Verdict.{Verdict}
use Rattle.bk_chain.specs.Chain.{HasLinksFault, HasVerdict, end_of, verdict_text}

-- the sink received the text of the verdict on a text
abbrev pub VerdictIsOut : ChainEnd → Device → Device → List ℕ → Type 0
VerdictIsOut end old new text =
    (v : Verdict) × HasVerdict text v × (end ≡ end_of v) × Receives old new (verdict_text v)

-- the sink received this many of its first bytes, which are not all
abbrev pub PartOfVerdictIsOut : ℕ → Device → Device → List ℕ → Type 0
PartOfVerdictIsOut written old new text =
    (v : Verdict) × HasVerdict text v × (written < length (verdict_text v))
    × Receives old new (take written (verdict_text v))

-- no call failed, the source was read to its end, and the sink received the verdict on the bytes that it gave
pub record IsChecked (end : ChainEnd) (old new : Devices) : Type 0 where
  pub source : Works old.source new.source
  pub sink : Works old.sink new.sink
  pub out : GaveAll old.source new.source (VerdictIsOut end old.sink new.sink)

-- why there is no verdict, by the fault: the bytes that the source gave have this fault, and so do those that it had,
-- where these are known; a call of the source failed; a call of the sink failed, and exactly the first bytes of the
-- verdict's text are out; or memory ran out. But for the sink's failure nothing is written
abbrev pub CheckFailsBy : ChainFault → Devices → Devices → Type 0
CheckFailsBy (fault.Links line) old new =
    Works old.source new.source × IsUntouched old.sink new.sink
    × OfText MOST_LINKS old.source new.source (λ text. HasLinksFault text line)
CheckFailsBy fault.Read old new = Fails old.source new.source × IsUntouched old.sink new.sink
CheckFailsBy (fault.Write written) old new =
    Works old.source new.source × Fails old.sink new.sink
    × GaveAll old.source new.source (PartOfVerdictIsOut written old.sink new.sink)
CheckFailsBy fault.Memory old new = Works old.source new.source × IsUntouched old.sink new.sink
