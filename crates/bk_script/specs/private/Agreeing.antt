-- What the private functions that make a feed say.
use Rattle.std.specs.Prelude.{◌≡◌, ℕ, List, Result, Ok, Err}
use Rattle.bk_frames.specs.Device.{Device, Works, Fails}
use Rattle.bk_results.specs.Devices.{OfText}
use Rattle.bk_results.specs.declared.script_fault.ScriptFault.{ScriptFault}
use Rattle.bk_results.specs.declared.script_fault.ScriptFault.TheVariants as fault
use Rattle.bk_script.specs.Script.{LineFault, feed_within}

-- a function that uses no device and may be refused memory answers as defined: with this value, or with what is wrong
-- and in which line
abbrev pub Agrees : {A B : Type 0} → (A → B) → Result A ScriptFault → Result B LineFault → Type 0
Agrees view (Ok a) defined = defined ≡ Ok (view a)
Agrees view (Err (fault.Script line found)) defined = defined ≡ Err (record { line = line; code = found })
Agrees view (Err fault.Read) defined = ⊥
Agrees view (Err (fault.Write written)) defined = ⊥
Agrees view (Err fault.Memory) defined = Unit {0}

-- the bytes of a source make this feed, and so do those that it gave; and no call failed
abbrev pub IsFeedFrom : ℕ → Device → Device → List ℕ → Type 0
IsFeedFrom most old new feed =
    Works old new × OfText most old new (λ text. feed_within most text ≡ Ok feed)

-- why they make none: they have this fault; a call of the source failed; or memory ran out
abbrev pub IsNoFeedFrom : ℕ → ScriptFault → Device → Device → Type 0
IsNoFeedFrom most (fault.Script line found) old new =
    Works old new × OfText most old new (λ text. feed_within most text ≡ Err (record { line = line; code = found }))
IsNoFeedFrom most fault.Read old new = Fails old new
IsNoFeedFrom most (fault.Write written) old new = ⊥
IsNoFeedFrom most fault.Memory old new = Works old new
