-- The first fault of bytes that are no feed.
use Rattle.std.specs.Prelude.{◌≡◌, ℕ, ◌+◌, Bool, List, [], ◌∷◌, ◌++◌, length, take, drop, Option, Some, None, not, nat_lt, nat_le, nat_eq, ◌==◌, ◌||◌, if◌then◌else◌}
use Rattle.std.specs.Int.{w32, from_be_bytes}
use Rattle.std.specs.List.{starts_with}
use Rattle.bk_base.specs.declared.limits.TheConstants.{MOST_FEED, MOST_PAYLOAD}
use Rattle.bk_base.specs.declared.version.Version.{Version}
use Rattle.bk_base.specs.declared.version.Version.TheVariants.{One, Two}
use Rattle.bk_frames.specs.declared.fault.FaultCode.{FaultCode}
use Rattle.bk_frames.specs.declared.fault.FaultCode.TheVariants as code
use Rattle.bk_frames.specs.declared.fault.FeedFault.{FeedFault}
use Rattle.bk_base.specs.Committee.{is_committee}
use Rattle.bk_base.specs.Genesis.{is_genesis}
use Rattle.bk_base.specs.Feed.{FeedValue, magic, spelling, AreGoodFrom}

-- the first finding of two
abbrev pub or_else : Option FaultCode → Option FaultCode → Option FaultCode
or_else (Some first) second = Some first
or_else None second = second

-- a finding where a test holds
abbrev pub fault_if : Bool → FaultCode → Option FaultCode
fault_if test found = if test then Some found else None

-- each of these bytes is that of BKF1 at its place, or each is that of BKF2
abbrev pub begins_magic : List ℕ → Bool
begins_magic front = starts_with nat_eq (magic One) front || starts_with nat_eq (magic Two) front

-- what the start of the bytes shows: one of the first four that are there is wrong, or fewer than four are there
abbrev pub start_fault : List ℕ → Option FaultCode
start_fault bytes =
    or_else (fault_if (not (begins_magic (take 4 bytes))) code.Magic) (fault_if (nat_lt (length bytes) 4) code.Truncated)

-- what the byte of a frame's kind shows
abbrev pub kind_fault : ℕ → ℕ → Option FaultCode
kind_fault index number =
    if nat_lt number 1 || nat_lt 4 number then Some code.Kind
    else (if index == 0 then fault_if (not (number == 1)) code.Committee
    else (if index == 1 then fault_if (not (number == 2)) code.Genesis
    else fault_if (nat_le number 2) code.Extra))

-- what the length of a payload shows
abbrev pub length_fault : ℕ → ℕ → Option FaultCode
length_fault offset len = fault_if (nat_lt MOST_PAYLOAD len || nat_lt MOST_FEED (offset + 5 + len)) code.Length

-- what a payload shows
abbrev pub payload_fault : Version → ℕ → List ℕ → Option FaultCode
payload_fault version index payload =
    if index == 0 then fault_if (not (is_committee version payload)) code.Committee
    else (if index == 1 then fault_if (not (is_genesis payload)) code.Genesis else None)

-- what the bytes after a frame's length show
abbrev pub content_fault : Version → ℕ → ℕ → ℕ → List ℕ → Option FaultCode
content_fault version index offset len bytes =
    or_else (length_fault offset len)
    (or_else (fault_if (nat_lt (length bytes) len) code.Truncated) (payload_fault version index (take len bytes)))

-- the first fault that these bytes show, where the frame with this index begins at this offset
abbrev pub frame_fault : Version → ℕ → ℕ → List ℕ → Option FaultCode
frame_fault version index offset [] = fault_if (nat_lt index 2) code.Truncated
frame_fault version index offset (number ∷ rest) =
    or_else (kind_fault index number)
    (or_else (fault_if (nat_lt (length rest) 4) code.Truncated)
    (content_fault version index offset (from_be_bytes w32 (take 4 rest)) (drop 4 rest)))

-- the bytes begin with the magic and good frames, and these others follow
pub record Begins (bytes : List ℕ) (front : FeedValue) (rest : List ℕ) : Type 0 where
  pub spelled : bytes ≡ spelling front ++ rest
  pub good : AreGoodFrom front.version 0 4 front.frames

-- the bytes have this fault: at their start, or where the good frames end
pub data HasFault (bytes : List ℕ) (fault : FeedFault) : Type 0 where
  at_start : start_fault bytes ≡ Some fault.code → fault.offset ≡ 0 → HasFault bytes fault
  in_frame : (front : FeedValue) (rest : List ℕ) → Begins bytes front rest
      → frame_fault front.version (length front.frames) fault.offset rest ≡ Some fault.code
      → fault.offset ≡ length (spelling front) → HasFault bytes fault
