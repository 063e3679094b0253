-- What the definition of a summary says of a feed's first frames.
use Rattle.std.specs.Prelude.{◌≡◌, ℕ, List, [], option_map, slice_get, unwrap_or}
use Rattle.sha2.specs.Sha256.{sha256}
use Rattle.bk_base.specs.Feed.{Frame, FeedValue, IsFeed}
use Rattle.bk_base.specs.Numbers.{IsBytes}
use Rattle.bk_summary.specs.Summary.{IsSummaryOf}
use Rattle.bk_summary.specs.declared.summary.Summary.{Summary}

-- the payload of a frame
abbrev pub payload_in : FeedValue → ℕ → List ℕ
payload_in feed index = unwrap_or (option_map (λ (f : Frame). f.payload) (slice_get feed.frames index)) []

-- the digests that a summary begins with are those of the payloads of frame 0 and frame 1
abbrev pub DigestsAreOfPayloads : Type 0
DigestsAreOfPayloads = (feed : FeedValue) (s : Summary) → IsFeed feed → IsBytes (payload_in feed 0) → IsBytes (payload_in feed 1)
    → IsSummaryOf feed s → (s.committee ≡ sha256 (payload_in feed 0)) × (s.genesis ≡ sha256 (payload_in feed 1))
