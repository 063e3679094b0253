-- What reading from a source leaves to say.
use Rattle.std.specs.Prelude.{◌≡◌, ℕ, ◌≤◌, List, [], ◌++◌, length}
use Rattle.bk_frames.specs.declared.fault.FaultCode.{FaultCode}
use Rattle.bk_frames.specs.declared.fault.FaultCode.TheVariants as code
use Rattle.bk_frames.specs.declared.fault.FeedFault.{FeedFault}
use Rattle.bk_frames.specs.declared.pulling.TheConstants.{PIECE}
use Rattle.bk_frames.specs.Device.{Device, Works, Fails, Gives, Ends, IfKnown}
use Rattle.bk_base.specs.Feed.{Frame, FeedValue, frame_text, spelling, IsFramedAt, IsFeed}
use Rattle.bk_frames.specs.FirstFault.{HasFault, Begins}

-- one fact where the source failed, one where memory ran out, and one for what is wrong with the bytes
abbrev pub ByCode : FaultCode → Type 0 → Type 0 → Type 0 → Type 0
ByCode code.Read failed refused found = failed
ByCode code.Memory failed refused found = refused
ByCode other failed refused found = found

-- this holds of the bytes that a source gave from one moment to a later one
abbrev pub Gave : Device → Device → (List ℕ → Type 0) → Type 0
Gave start now holds = (given : List ℕ) × Gives start now given × holds given

-- bytes that stop at this offset or in the frame that begins there: they are cut short there, or are a feed that ends there
pub data StopsAt (bytes : List ℕ) (offset : ℕ) : Type 0 where
  cut_short : HasFault bytes (record { offset = offset; code = code.Truncated }) → StopsAt bytes offset
  feed_ends : (feed : FeedValue) → IsFeed feed → bytes ≡ spelling feed → offset ≡ length bytes → StopsAt bytes offset

-- the kind and the length of a frame, and its payload or the front of it
pub record IsPartAt (index offset : ℕ) (part : List ℕ) : Type 0 where
  pub frame : Frame
  pub more : List ℕ
  pub framed : IsFramedAt index offset frame
  pub joined : frame_text frame ≡ part ++ more
  pub measured : 5 ≤ length part

-- bytes that call for memory at this offset: none at 0; or good frames, and then the frame that begins there or a part
-- of it with its length
pub data CallsForMemoryAt (bytes : List ℕ) (offset : ℕ) : Type 0 where
  at_first : bytes ≡ [] → offset ≡ 0 → CallsForMemoryAt bytes offset
  in_part : (front : FeedValue) (part : List ℕ) → Begins bytes front part → IsPartAt (length front.frames) offset part
      → offset ≡ length (spelling front) → CallsForMemoryAt bytes offset

-- the same of a front of the bytes: behind it at most a piece was pulled ahead, and nothing at 0
pub record FrontCallsForMemoryAt (bytes : List ℕ) (offset : ℕ) : Type 0 where
  pub front : List ℕ
  pub ahead : List ℕ
  pub parts : bytes ≡ front ++ ahead
  pub calls : CallsForMemoryAt front offset
  pub near : length ahead ≤ PIECE
  pub first : offset ≡ 0 → ahead ≡ []

-- why a feed was refused: a call of the source failed, after bytes that stop at this offset; or memory ran out, after
-- bytes that call for it at this offset; or the bytes that the source gave have this fault, and so have all that it had,
-- where they are known; that they end too early is said only where the source ended
abbrev pub Refuses : FeedFault → Device → Device → Type 0
Refuses fault start now =
    ByCode fault.code
    (Fails start now × Gave start now (λ given. StopsAt given fault.offset))
    (Works start now × Gave start now (λ given. FrontCallsForMemoryAt given fault.offset))
    (Works start now × Gave start now (λ given. HasFault given fault) × IfKnown start (λ bytes. HasFault bytes fault)
    × (fault.code ≡ code.Truncated → Ends 1 start now))
