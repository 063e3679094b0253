-- Cutting a feed that comes in pieces into its frames.
use Rattle.std.specs.Prelude.{◌≡◌, ◌≢◌, ℕ, ◌+◌, ◌<◌, List, [], ◌++◌, length, map, Option, Some, None}
use Rattle.std.specs.List.{flat_map}
use Rattle.std.specs.Global.{Vec}
use Rattle.bk_base.specs.declared.version.Version.{Version}
use Rattle.bk_base.specs.declared.kind.Kind.{Kind}
use Rattle.bk_frames.specs.declared.fault.FaultCode.{FaultCode}
use Rattle.bk_frames.specs.declared.fault.FaultCode.TheVariants as code
use Rattle.bk_frames.specs.declared.fault.FeedFault.{FeedFault}
use Rattle.bk_base.specs.Feed.{Frame, feed_of, frame_text, spelling, AreGoodFrom}
use Rattle.bk_frames.specs.FirstFault.{start_fault, frame_fault}
use Rattle.bk_frames.specs.Pulling.{ByCode, IsPartAt}

-- what a cutter keeps between two pieces: the version, once the magic is whole; the index and the offset of the frame
-- that is being read, both 0 while that is the magic; its bytes so far; and the fault that each later call returns
pub record Cut : Type 0 where
  pub version : Option Version
  pub index : ℕ
  pub offset : ℕ
  pub kept : List ℕ
  pub fault : Option FeedFault

-- the frames that are handed out
abbrev pub frames_in : List (Kind × Vec ℕ) → List Frame
frames_in out = map (λ (f : Kind × Vec ℕ). record { kind = f.0; payload = f.1.items }) out

-- before the first byte
abbrev pub fresh : Cut
fresh = record { version = None; index = 0; offset = 0; kept = []; fault = None }

-- From one moment to a later one these bytes came and these frames were handed out: what was kept before and what came
-- is the magic where it became whole, the frames, each good, and what is kept then.
pub data Cuts (old : Cut) (came : List ℕ) (out : List Frame) (new : Cut) : Type 0 where
  in_magic : old.version ≡ None → new.version ≡ None → new.index ≡ 0 → new.offset ≡ 0 → out ≡ []
      → old.kept ++ came ≡ new.kept → Cuts old came out new
  past_magic : (version : Version) → old.version ≡ None → new.version ≡ Some version
      → old.kept ++ came ≡ spelling (feed_of version out) ++ new.kept → AreGoodFrom version 0 4 out
      → new.index ≡ length out → new.offset ≡ length (spelling (feed_of version out)) → Cuts old came out new
  in_frames : (version : Version) → old.version ≡ Some version → new.version ≡ Some version
      → old.kept ++ came ≡ flat_map frame_text out ++ new.kept → AreGoodFrom version old.index old.offset out
      → new.index ≡ old.index + length out → new.offset ≡ old.offset + length (flat_map frame_text out)
      → Cuts old came out new

-- the same where the frames are put behind others
abbrev pub CutsInto : Cut → List ℕ → List (Kind × Vec ℕ) → List (Kind × Vec ℕ) → Cut → Type 0
CutsInto old came before after new =
    (more : List (Kind × Vec ℕ)) × (after ≡ before ++ more) × Cuts old came (frames_in more) new

-- the first fault that these bytes show where nothing follows them: at the start, or where a frame begins
abbrev pub fault_at : Option Version → ℕ → ℕ → List ℕ → Option FaultCode
fault_at None index offset bytes = start_fault bytes
fault_at (Some version) index offset bytes = frame_fault version index offset bytes

-- what is kept is cut short and shows no other fault: it holds no whole frame
abbrev pub IsOpen : Cut → Type 0
IsOpen c = 0 < length c.kept → fault_at c.version c.index c.offset c.kept ≡ Some code.Truncated

-- what was kept and what came show this fault, after the frames that are whole
pub record ShowsFault (old : Cut) (came : List ℕ) (fault : FeedFault) : Type 0 where
  pub out : List Frame
  pub at : Cut
  pub cuts : Cuts old came out at
  pub shown : fault_at at.version at.index at.offset at.kept ≡ Some fault.code
  pub place : fault.offset ≡ at.offset

-- the kind and the length of the frame that is being read came, and its payload or a part of it
pub record IsBegun (c : Cut) : Type 0 where
  pub version : Version
  pub known : c.version ≡ Some version
  pub part : IsPartAt c.index c.offset c.kept

-- with a front of what came the frame at this offset is begun
pub record Reaches (old : Cut) (came : List ℕ) (offset : ℕ) : Type 0 where
  pub used : List ℕ
  pub ahead : List ℕ
  pub parts : came ≡ used ++ ahead
  pub out : List Frame
  pub at : Cut
  pub cuts : Cuts old used out at
  pub begun : IsBegun at
  pub place : offset ≡ at.offset

-- why a piece was refused: memory ran out in the frame at the offset, or the bytes show the fault however they go on
pub record RefusesPiece (old : Cut) (came : List ℕ) (fault : FeedFault) : Type 0 where
  pub cause : ByCode fault.code ⊥ (Reaches old came fault.offset) (ShowsFault old came fault)
  pub shown_already : fault.code ≢ code.Truncated

-- the same with the frames: those that a front of what came was cut into were put behind others, and what follows in
-- what came is refused; this is the version then
pub record RefusesInto (old : Cut) (came : List ℕ) (before after : List (Kind × Vec ℕ)) (version : Option Version) (fault : FeedFault) : Type 0 where
  pub used : List ℕ
  pub ahead : List ℕ
  pub parts : came ≡ used ++ ahead
  pub more : List (Kind × Vec ℕ)
  pub put : after ≡ before ++ more
  pub at : Cut
  pub cuts : Cuts old used (frames_in more) at
  pub cause : ByCode fault.code ⊥ (IsBegun at) (fault_at at.version at.index at.offset (at.kept ++ ahead) ≡ Some fault.code)
  pub shown_already : fault.code ≢ code.Truncated
  pub place : fault.offset ≡ at.offset
  pub known : version ≡ at.version

-- the feed that ends here is cut short
pub record EndsShort (c : Cut) (fault : FeedFault) : Type 0 where
  pub is : fault ≡ record { offset = c.offset; code = code.Truncated }
  pub shown : fault_at c.version c.index c.offset c.kept ≡ Some code.Truncated
