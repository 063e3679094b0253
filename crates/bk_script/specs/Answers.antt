-- What the calls of a script answer.
use Rattle.std.specs.Prelude.{◌≡◌, ℕ, ◌+◌, ◌<◌, ◌≤◌, nat_le, if◌then◌else◌, List, length, take, Result, Ok, Err}
use Rattle.std.specs.Io.KnownBytes.{Keeps}
use Rattle.bk_frames.specs.Device.{Device, Works, Fails, Gives, Ends, Receives, IfKnown}
use Rattle.bk_results.specs.Devices.{OfText}
use Rattle.bk_results.specs.declared.script_fault.ScriptCode.{ScriptCode}
use Rattle.bk_results.specs.declared.script_fault.ScriptFault.{ScriptFault}
use Rattle.bk_results.specs.declared.script_fault.ScriptFault.TheVariants as fault
use Rattle.bk_script.specs.declared.fault.Stop.{Stop}
use Rattle.bk_script.specs.declared.fault.Stop.TheVariants as stop
use Rattle.bk_script.specs.Script.{feed_of}
use Rattle.bk_script.specs.declared.making.TheConstants.{MOST_SCRIPT}

-- a function that may be refused memory answers as defined: with this value, or with what is wrong
abbrev pub Answers : {A B : Type 0} → (A → B) → Result A Stop → Result B ScriptCode → Type 0
Answers view (Ok a) defined = defined ≡ Ok (view a)
Answers view (Err (stop.Code found)) defined = defined ≡ Err found
Answers view (Err stop.Memory) defined = Unit {0}

-- ---- the text of a source

-- what was read of the bytes of a source: all, or the limit and one byte more
unfoldable pub IsRead : ℕ → List ℕ → List ℕ → Type 0
IsRead most bytes text = text ≡ take (most + 1) bytes

-- a text was read, which is what the source gave, and no call of it failed; a text that is not too long was read to its end
abbrev pub HasRead : ℕ → Device → Device → List ℕ → Type 0
HasRead most old new text =
    Works old new × (length text ≤ most + 1) × IfKnown old (λ bytes. IsRead most bytes text) × Gives old new text
    × Ends (if nat_le (length text) most then 1 else 0) old new

-- why a text was not read: a call of the source failed, or memory ran out
abbrev pub IsNotRead : ScriptFault → Device → Device → Type 0
IsNotRead fault.Read old new = Fails old new
IsNotRead fault.Memory old new = Works old new
IsNotRead other old new = ⊥

-- ---- from a source to a sink

-- the source of a script and the sink of its feed
pub record Devices : Type 0 where
  pub source : Device
  pub sink : Device

-- these two
abbrev pub devices : Device → Device → Devices
devices source sink = record { source = source; sink = sink }

-- nothing went out, and no call failed
abbrev pub IsUntouched : Device → Device → Type 0
IsUntouched old new = Works old new × Keeps old.bytes new.bytes

-- the text makes a feed, and the sink received exactly its bytes
abbrev pub IsMade : List ℕ → Device → Device → Type 0
IsMade text old new = (feed : List ℕ) × (feed_of text ≡ Ok feed) × Receives old new feed

-- the text makes a feed, and the sink received exactly this many of its first bytes, which are not all
abbrev pub IsMadeInPart : ℕ → List ℕ → Device → Device → Type 0
IsMadeInPart written text old new =
    (feed : List ℕ) × (feed_of text ≡ Ok feed) × (written < length feed) × Receives old new (take written feed)

-- why there is no feed, by the fault: the text has exactly this one, and nothing is written; a call of the source failed,
-- and nothing is written; a call of the sink failed, and exactly the first bytes of the feed are out; or memory ran out,
-- and nothing is written
abbrev pub FailsBy : ScriptFault → Devices → Devices → Type 0
FailsBy (fault.Script line found) old new =
    Works old.source new.source
    × OfText MOST_SCRIPT old.source new.source (λ text. feed_of text ≡ Err (record { line = line; code = found }))
    × IsUntouched old.sink new.sink
FailsBy fault.Read old new = Fails old.source new.source × IsUntouched old.sink new.sink
FailsBy (fault.Write written) old new =
    Works old.source new.source × Fails old.sink new.sink
    × OfText MOST_SCRIPT old.source new.source (λ text. IsMadeInPart written text old.sink new.sink)
FailsBy fault.Memory old new = Works old.source new.source × IsUntouched old.sink new.sink
