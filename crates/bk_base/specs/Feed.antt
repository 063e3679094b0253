-- A feed: four bytes of magic that name its version, then frames. What a feed is, and how it is encoded.
use Rattle.std.specs.Prelude.{◌≡◌, ℕ, ◌+◌, ◌≤◌, Bool, List, [], ◌∷◌, ◌++◌, length, IsTrue, is_some, nat_le, ◌==◌, slice_get, unwrap_or, option_and_then}
use Rattle.std.specs.Int.{w32, to_be_bytes}
use Rattle.std.specs.List.{flat_map}
use Rattle.bk_base.specs.declared.limits.TheConstants.{MOST_FEED, MOST_PAYLOAD}
use Rattle.bk_base.specs.declared.version.Version.{Version}
use Rattle.bk_base.specs.declared.version.Version.TheVariants.{One, Two}
use Rattle.bk_base.specs.declared.kind.Kind.{Kind}
use Rattle.bk_base.specs.declared.kind.Kind.TheVariants as kind
use Rattle.bk_base.specs.declared.genesis.Row.{Row}
use Rattle.bk_base.specs.Committee.{is_committee}
use Rattle.bk_base.specs.Genesis.{rows_of}

-- a frame of a feed
pub record Frame : Type 0 where
  pub kind : Kind
  pub payload : List ℕ

-- a frame of this kind and payload
abbrev pub frame_of : Kind → List ℕ → Frame
frame_of kind payload = record { kind = kind; payload = payload }

-- what a feed is to contracts: its version and its frames
pub record FeedValue : Type 0 where
  pub version : Version
  pub frames : List Frame

-- a feed of this version and these frames
abbrev pub feed_of : Version → List Frame → FeedValue
feed_of version frames = record { version = version; frames = frames }

-- ---- the encoding

-- the bytes that a feed begins with: BKF1 or BKF2
abbrev pub magic : Version → List ℕ
magic One = 66 ∷ 75 ∷ 70 ∷ 49 ∷ []
magic Two = 66 ∷ 75 ∷ 70 ∷ 50 ∷ []

-- the number of a kind
abbrev pub kind_number : Kind → ℕ
kind_number kind.Committee = 1
kind_number kind.Genesis = 2
kind_number kind.Certificate = 3
kind_number kind.Batch = 4

-- a frame's bytes: its kind, the length of its payload in four bytes, and its payload
abbrev pub frame_text : Frame → List ℕ
frame_text f = kind_number f.kind ∷ to_be_bytes w32 (length f.payload) ++ f.payload

-- a feed's bytes: the magic of its version, and then each frame
abbrev pub spelling : FeedValue → List ℕ
spelling feed = magic feed.version ++ flat_map frame_text feed.frames

-- ---- what a feed is

-- frame 0 is the committee, frame 1 the genesis, and all later frames are certificates and batches
abbrev pub stands_at : ℕ → Kind → Bool
stands_at index kind.Committee = index == 0
stands_at index kind.Genesis = index == 1
stands_at index later = nat_le 2 index

-- a frame whose kind and length are good, with this index and with its first byte at this offset
pub record IsFramedAt (index offset : ℕ) (f : Frame) : Type 0 where
  pub in_place : IsTrue (stands_at index f.kind)
  pub short : length f.payload ≤ MOST_PAYLOAD
  pub inside : offset + length (frame_text f) ≤ MOST_FEED

-- a frame that is good in a feed of this version: its payload is too, where it is the committee or the genesis
pub record IsGoodAt (version : Version) (index offset : ℕ) (f : Frame) : Type 0 where
  pub framed : IsFramedAt index offset f
  pub committee : index ≡ 0 → IsTrue (is_committee version f.payload)
  pub genesis : index ≡ 1 → IsTrue (is_some (rows_of f.payload))

-- each of these frames is good, the first with this index and offset and each further one right after the one before it
abbrev pub AreGoodFrom : Version → ℕ → ℕ → List Frame → Type 0
AreGoodFrom version index offset [] = Unit {0}
AreGoodFrom version index offset (f ∷ more) =
    IsGoodAt version index offset f × AreGoodFrom version (index + 1) (offset + length (frame_text f)) more

-- a feed is a list of good frames, the committee and the genesis among them
pub record IsFeed (feed : FeedValue) : Type 0 where
  pub good : AreGoodFrom feed.version 0 4 feed.frames
  pub opened : 2 ≤ length feed.frames

-- the opening accounts of a feed: those that frame 1 holds
abbrev pub genesis_of : List Frame → List Row
genesis_of frames = unwrap_or (option_and_then (λ (f : Frame). rows_of f.payload) (slice_get frames 1)) []
