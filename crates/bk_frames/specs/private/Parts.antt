-- What the private functions that cut a feed say of what is being read.
use Rattle.std.specs.Prelude.{◌≡◌, ◌≢◌, ℕ, ◌<◌, ◌≤◌, List, [], ◌∷◌, ◌++◌, length, take, drop, slice_index, Some, None, IsTrue, is_some}
use Rattle.std.specs.Int.{w32, from_be_bytes}
use Rattle.bk_base.specs.declared.limits.TheConstants.{MOST_FEED}
use Rattle.bk_base.specs.declared.version.Version.TheVariants.{One}
use Rattle.bk_frames.specs.declared.fault.FaultCode.{FaultCode}
use Rattle.bk_frames.specs.declared.fault.FaultCode.TheVariants as code
use Rattle.bk_frames.specs.declared.part.Part.{Part}
use Rattle.bk_base.specs.Feed.{magic}
use Rattle.bk_frames.specs.FirstFault.{kind_fault, length_fault}
use Rattle.bk_frames.specs.Pulling.{ByCode}
use Rattle.bk_frames.specs.Cutting.{Cut, IsBegun, fault_at}

-- its bytes so far
abbrev pub kept_of : Part → List ℕ
kept_of p = take p.filled p.head ++ p.payload.items

-- a cutter that reads it and has no fault
abbrev pub cut_of : Part → Cut
cut_of p = record { version = p.version; index = p.index; offset = p.offset; kept = kept_of p; fault = None }

-- the length that a whole head states
abbrev pub len_of : Part → ℕ
len_of p = from_be_bytes w32 (drop 1 p.head)

-- the head of a frame is being read, or its payload
abbrev pub IsInFrame : Part → Type 0
IsInFrame p = IsTrue (is_some p.version)

-- what holds of a part: nothing in it shows a fault
pub record IsPart (p : Part) : Type 0 where
  pub five : length p.head ≡ 5
  pub filled : p.filled ≤ 5
  pub count : p.index ≤ p.offset
  pub inside : p.offset ≤ MOST_FEED
  pub first : p.version ≡ None → (p.index ≡ 0) × (p.offset ≡ 0) × (p.filled < 4) × (take p.filled p.head ≡ take p.filled (magic One))
  pub none : p.filled < 5 → p.payload.items ≡ []
  pub kind : IsInFrame p → 0 < p.filled → kind_fault p.index (slice_index p.head 0) ≡ None
  pub sized : p.filled ≡ 5 → (length_fault p.offset (len_of p) ≡ None) × (length p.payload.items ≤ len_of p)

-- it is not whole
abbrev pub IsShort : Part → Type 0
IsShort p = p.filled ≡ 5 → length p.payload.items < len_of p

-- why taking from a piece failed: memory ran out, or the byte that follows what was kept shows this fault
abbrev pub FailsSoon : Cut → List ℕ → FaultCode → Type 0
FailsSoon c piece e =
    (e ≢ code.Truncated)
    × ByCode e ⊥ (IsBegun c)
    ((b : ℕ) × (more : List ℕ) × (piece ≡ b ∷ more) × (fault_at c.version c.index c.offset (c.kept ++ b ∷ []) ≡ Some e))
