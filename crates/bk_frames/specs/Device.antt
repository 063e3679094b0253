-- What contracts know of a device, a source or a sink of bytes.
use Rattle.std.specs.Prelude.{◌≡◌, ℕ, ◌+◌, ◌^◌, ◌<◌, ◌==◌, ◌&&◌, nat_lt, Bool, true, List, [], ◌++◌, take, length, Option, IfSome, MatchResult, is_ok, if◌then◌else◌}
use Rattle.std.specs.Io.KnownBytes.{Consumes, Appends, IsAtEnd}
use Rattle.std.specs.declared.result.Result.{Result}

-- the bytes that a source still has or a sink holds, where they are known; of a source, which bytes it may have given, and how
-- often it may have ended; and how many of its calls have failed. Nobody knows what a file holds: it may have given anything. But
-- what is proved of every source can rest on its calls alone
pub record Device : Type 0 where
  pub bytes : Option (List ℕ)
  pub may_have_given : List ℕ → Bool
  pub may_have_ended : ℕ → Bool
  pub failures : ℕ

-- a device of which no more is known than these bytes, where they are, and this count of failures
abbrev pub plain : Option (List ℕ) → ℕ → Device
plain bytes failures = record { bytes = bytes; may_have_given = λ _. true; may_have_ended = λ _. true; failures = failures }

-- a device can be used while the failures of its calls can be counted
abbrev pub CanBeUsed : Device → Type 0
CanBeUsed device = device.failures < 2 ^ 62

-- a call raises the count of failures by one where it fails, and else keeps it
abbrev pub Counts : {T E : Type 0} → Device → Device → Result T E → Type 0
Counts old new result = new.failures ≡ (if is_ok result then old.failures else old.failures + 1)

-- from one moment to a later one no call failed
abbrev pub Works : Device → Device → Type 0
Works old new = new.failures ≡ old.failures

-- from one moment to a later one exactly one call failed
abbrev pub Fails : Device → Device → Type 0
Fails old new = new.failures ≡ old.failures + 1

-- from one moment to a later one a source gave these bytes: those that are known begin with them and lose them, and what it gave
-- in all grows by them
pub record Gives (old new : Device) (bytes : List ℕ) : Type 0 where
  pub known : Consumes old.bytes new.bytes bytes
  pub given : (before : List ℕ) → old.may_have_given before ≡ true → new.may_have_given (before ++ bytes) ≡ true

-- from one moment to a later one a source ended so often
abbrev pub Ends : ℕ → Device → Device → Type 0
Ends times old new = (before : ℕ) → old.may_have_ended before ≡ true → new.may_have_ended (before + times) ≡ true

-- how often a source ended in a call, by how many bytes it gave and for how many it had room: once where it gave none,
-- though there was room
abbrev pub ends_of : ℕ → ℕ → ℕ
ends_of given room = if nat_lt 0 room && given == 0 then 1 else 0

-- what a call does that gives the front of a buffer, or fails: one that gives no byte, though there is room, is the end of those
-- that are known
abbrev pub OnePull : {E : Type 0} → Device → Device → Result ℕ E → List ℕ → Type 0
OnePull old new result buf = MatchResult result
    (λ n. Gives old new (take n buf) × (n ≡ 0 → 0 < length buf → IsAtEnd new.bytes) × Ends (ends_of n (length buf)) old new)
    (λ _. Gives old new [] × Ends 0 old new)

-- from one moment to a later one a sink received these bytes
abbrev pub Receives : Device → Device → List ℕ → Type 0
Receives old new bytes = Appends old.bytes new.bytes bytes

-- this holds of the bytes of a device, where they are known
abbrev pub IfKnown : Device → (List ℕ → Type 0) → Type 0
IfKnown device holds = IfSome device.bytes holds

-- from one moment to a later one these bytes are all that a source had, where that is known, and it ended once
abbrev pub IsWhole : Device → Device → List ℕ → Type 0
IsWhole old new bytes = IfSome old.bytes (λ whole. whole ≡ bytes) × Ends 1 old new

-- a source gave bytes of which this holds, to its end
abbrev pub GaveAll : Device → Device → (List ℕ → Type 0) → Type 0
GaveAll old new holds = (given : List ℕ) × Gives old new given × IsWhole old new given × holds given
