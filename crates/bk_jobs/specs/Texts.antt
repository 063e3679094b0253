-- The jobs that read a script or a proof.
use Rattle.std.specs.Prelude.{ℕ, ◌<◌, ◌↔◌, Bool, List, Option, Some, None, codes, if◌then◌else◌, length, take, IsTrue}
use Rattle.bk_frames.specs.Device.{Device, Works, Fails, Receives}
use Rattle.bk_results.specs.Devices.{Devices, IsUntouched, OfText}
use Rattle.bk_results.specs.declared.script_fault.ScriptFault.{ScriptFault}
use Rattle.bk_results.specs.declared.script_fault.ScriptFault.TheVariants as text
use Rattle.bk_report.specs.Proofs.{IsGoodProof, IsGoodProofOf}
use Rattle.bk_script.specs.Answers as script

-- the text of a verdict on a proof
abbrev pub verdict_text : Bool → List ℕ
verdict_text good = if good then codes "proof good\n" else codes "proof bad\n"

-- the bytes are a proof of this root, and of the account with this id where one is named
abbrev pub ProvesFor : List ℕ → Option ℕ → List ℕ → Type 0
ProvesFor root None bytes = IsGoodProof root bytes
ProvesFor root (Some id) bytes = IsGoodProofOf root id bytes

-- the verdict on whether they are
abbrev pub IsVerdict : List ℕ → Option ℕ → List ℕ → Bool → Type 0
IsVerdict root account bytes good = IsTrue good ↔ ProvesFor root account bytes

-- the output got this verdict on the text that the source gave, and on that which it had, where this is known
abbrev pub VerdictIsOut : List ℕ → Option ℕ → Bool → Devices → Devices → Type 0
VerdictIsOut root account good old new =
    Works old.source new.source × Works old.sink new.sink × Receives old.sink new.sink (verdict_text good)
    × OfText 65536 old.source new.source (λ text. IsVerdict root account text good)

-- the devices of a script
abbrev pub script_devices : Devices → script.Devices
script_devices d = script.devices d.source d.sink

-- the first bytes of the verdict are out, and not all
abbrev pub PartOfVerdictIsOut : List ℕ → Option ℕ → ℕ → Device → Device → List ℕ → Type 0
PartOfVerdictIsOut root account written old new bytes =
    (good : Bool) × IsVerdict root account bytes good × (written < length (verdict_text good))
    × Receives old new (take written (verdict_text good))

-- why there is no verdict, by the fault: a call of the source failed, and nothing is written; a call of the sink failed,
-- and exactly the first bytes of the verdict are out; or memory ran out, and nothing is written
abbrev pub CheckFailsBy : List ℕ → Option ℕ → ScriptFault → Devices → Devices → Type 0
CheckFailsBy root account (text.Script line found) old new = ⊥
CheckFailsBy root account text.Read old new = Fails old.source new.source × IsUntouched old.sink new.sink
CheckFailsBy root account (text.Write written) old new =
    Works old.source new.source × Fails old.sink new.sink
    × OfText 65536 old.source new.source (PartOfVerdictIsOut root account written old.sink new.sink)
CheckFailsBy root account text.Memory old new =
    Works old.source new.source × IsUntouched old.sink new.sink
